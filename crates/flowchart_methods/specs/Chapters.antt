-- The methods as the page has them.
use Rattle.std.specs.Prelude.{◌≡◌, ℕ, zero, suc, ◌+◌, List, [], ◌∷◌, String, ⊤}
use Rattle.std.specs.declared.alloc.Global.{Global}
use Rattle.pap_reader.specs.declared.element.Element.TheVariants.{Main, Method}
use Rattle.chart_layout.specs.Drawn.{body_statements}
use Rattle.plan_notes.specs.declared.notes.Notes.{Notes}
use Rattle.plan_notes.specs.StartTags.{comments_before}
use Rattle.flowchart_methods.specs.declared.chapter.Chapter.{Chapter}
use Rattle.flowchart_methods.specs.Captions.{method_captions}

-- the heading and the captions of a method of the page
abbrev pub chapter_captions : Chapter → List (List ℕ)
chapter_captions c =
    method_captions c.text.name (record { conditions = c.conditions.items; marks = c.marks.now }) (body_statements c.text.body)

-- the comments before the start tag of the numbered method, where MAIN is the first
abbrev pub method_comments : Notes → ℕ → List (String Global)
method_comments notes zero = comments_before notes Main 0
method_comments notes (suc number) = comments_before notes Method number

-- each of these chapters, from the numbered one on, has the comments before the start tag of its method
abbrev pub AreCommented : Notes → ℕ → List Chapter → Type 0
AreCommented notes number [] = ⊤
AreCommented notes number (c ∷ cs) =
    (c.comments.now ≡ method_comments notes number) × AreCommented notes (number + 1) cs
