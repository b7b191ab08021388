pub mod Comments
pub mod CommentChanges
pub mod private
