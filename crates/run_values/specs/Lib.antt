pub mod NumberedValues
pub mod MethodBodies
pub mod private
