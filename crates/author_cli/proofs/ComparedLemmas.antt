-- What is written of two plans that are read.
use Rattle.std.proofs.Common.{◌≡◌, ℕ, List, Bool, Option, ap, subst, ◌∙◌}
use Rattle.std.specs.Prelude.{Some, None}
use Rattle.pap_tree.specs.Flowchart.{Flowchart}
use Rattle.limits_file.specs.declared.limits.Limits.{Limits}
use Rattle.range_comparison.specs.declared.change.RangeChange.{RangeChange}
use Rattle.range_comparison.specs.Changes.{range_changes}
use Rattle.pap_plan.specs.Acceptance.{HasBindings}
use Rattle.plan_text.specs.Plans.{IsPlan}
use Rattle.plain_words.specs.Places.{NamedText, PlanFiles}
use Rattle.flowchart_comparison.specs.Outlines.{TextOutline, outline_of}
use Rattle.flowchart_comparison.specs.Comparisons.{TextComparison, IsComparison, differs}
use Rattle.comment_comparison.specs.CommentChanges.{ComparedComments, IsCommentComparison}
use Rattle.comparison_page.specs.Pages.{ranges_differ}
use Rattle.author_cli.specs.Words.{Medium}
use Rattle.author_cli.specs.Compared.{TellsComparison, IsComparedText, IsComparedWithin, comparison_in, difference_words}

pub tells_comparison : (m : Medium) (old new : NamedText) (text : List ℕ) (reason : Option (List ℕ)) (p q : Flowchart)
    (x y : TextOutline) (c : TextComparison) (ranges : Option (List RangeChange)) (comments : ComparedComments)
    (is_other is_other_range : Bool) → IsComparison x y c → IsCommentComparison old.bytes new.bytes comments
    → text ≡ comparison_in m old.name new.name x y c ranges comments → is_other ≡ differs x y c
    → is_other_range ≡ ranges_differ ranges → reason ≡ difference_words is_other is_other_range
    → x ≡ outline_of p → y ≡ outline_of q → TellsComparison m old new p q ranges text reason
tells_comparison m old new text reason p q x y c ranges comments is_other is_other_range is commented written other other_range said
    of_old of_new = record {
      comparison = c;
      is = subst (λ o. IsComparison o (outline_of q) c) of_old (subst (λ o. IsComparison x o c) of_new is);
      comments = comments;
      commented = commented;
      written = written ∙ ap (λ o. comparison_in m old.name new.name o y c ranges comments) of_old
          ∙ ap (λ o. comparison_in m old.name new.name (outline_of p) o c ranges comments) of_new;
      said = said ∙ ap (λ b. difference_words b is_other_range)
          (other ∙ ap (λ o. differs o y c) of_old ∙ ap (λ o. differs (outline_of p) o c) of_new)
          ∙ ap (λ b. difference_words (differs (outline_of p) (outline_of q) c) b) other_range;
    }

-- two plans that are read
pub compared_text : (m : Medium) (old new : NamedText) (text : List ℕ) (reason : Option (List ℕ)) (p q : Flowchart)
    → IsPlan old.bytes p → IsPlan new.bytes q → TellsComparison m old new p q None text reason
    → IsComparedText m old new text reason
compared_text m old new text reason p q old_read new_read tells =
    record { old_plan = p; new_plan = q; old_read = old_read; new_read = new_read; tells = tells }

-- two plans that suit their range files
pub compared_within : (m : Medium) (old new : PlanFiles) (text : List ℕ) (reason : Option (List ℕ)) (p q : Flowchart) (l k : Limits)
    (changes : List RangeChange) → HasBindings old.plan.bytes old.ranges.bytes p l → HasBindings new.plan.bytes new.ranges.bytes q k
    → changes ≡ range_changes l k → TellsComparison m old.plan new.plan p q (Some changes) text reason
    → IsComparedWithin m old new text reason
compared_within m old new text reason p q l k changes old_bound new_bound are tells = record {
  old_plan = p;
  new_plan = q;
  old_ranges = l;
  new_ranges = k;
  old_bound = old_bound;
  new_bound = new_bound;
  tells = subst (λ cs. TellsComparison m old.plan new.plan p q (Some cs) text reason) are tells;
}
