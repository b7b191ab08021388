-- The laws that other crates may cite.
-- ---- ranges, whatever those of the variables
-- the range of a typed expression has the shape of its kind
pub use Rattle.interval_walk.proofs.NodeShapes.{ranged_shape, leaf_shape, stepped, passed_node}
-- so has what is read, and what the parts of a conditional have together
pub use Rattle.interval_walk.proofs.RowShapes.{IsRead, read_shape, shape_bits, wider_left, wider_right, join_shape}
-- a name's range is that of the variable
pub use Rattle.interval_walk.proofs.TermSound.{found_range}
-- the ranges of a comparison are aligned; a range joined with itself stays
pub use Rattle.interval_walk.proofs.RowLaws.{compared_aligned, comparison_row_aligned, join_same}
-- a refined range keeps its scales, and one side's refinement leaves whole numbers at the other
pub use Rattle.interval_walk.proofs.BranchSound.{KeepsScales, refined_scales, FoundWhole, named_put, narrowed_whole}
-- the divisor that the text of divide(d) shows is a plain one
pub use Rattle.interval_walk.proofs.ScopeLemmas.{shown_plain, shown_value}
-- the walk keeps the names of the variables
pub use Rattle.interval_walk.proofs.NameLemmas.{BranchesNamed, put_names, tested_named, joined_named, walked_named, calls_named}
-- what has the shape of its kind is read as it is, and the walk keeps the shapes of the variables' ranges
pub use Rattle.interval_walk.proofs.ReadSound.{read_passes, reading_free}
pub use Rattle.interval_walk.proofs.KeptWalk.{refined_inside}
pub use Rattle.interval_walk.proofs.ShapedWalk.{tested_shaped, walked_shaped}
-- no range gets empty; so nothing is refused where it is read, at whatever place, and behind each test the walk goes on
pub use Rattle.interval_walk.proofs.FilledWalk.{filled_after, none_empty}
pub use Rattle.interval_walk.proofs.ReadWalk.{reads_all}
-- in a plan that is in order nothing is refused outright
pub use Rattle.interval_walk.proofs.AskedWalk.{refused_outright}
-- so each refusal of the walk is that of a row, or an output is beyond its bound
pub use Rattle.interval_walk.proofs.RefusedWalk.{refusals_rows}
-- ---- values
-- where the walk passes, every admitted input is safe
pub use Rattle.interval_walk.proofs.PlanSound.{analysis_sound}
-- the same of an expression, of a test, of a list of statements and of methods
pub use Rattle.interval_walk.proofs.ScopeLemmas.{IsSoundScope}
pub use Rattle.interval_walk.proofs.PlanLemmas.{sound_scope}
pub use Rattle.interval_walk.proofs.TermSound.{term_sound, test_sound}
pub use Rattle.interval_walk.proofs.WalkSound.{BodyHolds, CallsHold, body_sound, calls_hold}
-- where it passes, it comes to each statement that a run on admitted inputs executes
pub use Rattle.interval_walk.proofs.VisitSound.{executed_visited}
-- what is at most another is so at each scale; the start lies in its ranges
pub use Rattle.interval_walk.proofs.StartSound.{at_most, start_inside, start_variables, are_inputs}
-- some branch of a test can be reached
pub use Rattle.interval_walk.proofs.ReachedSound.{some_branch}
-- a value that fits is admitted for a `double`, brought to three places
pub use Rattle.interval_walk.proofs.AdmissionLemmas.{factor_admitted}
