-- What a page has before its verdict.
use Rattle.std.specs.Prelude.{ℕ, List, [], ◌∷◌, ◌++◌, codes, Option, Some, None, String}
use Rattle.std.specs.declared.alloc.Global.{Global}
use Rattle.flowchart_markup.specs.Escapes.{escaped}
use Rattle.flowchart_methods.specs.Comments.{comments_text}
use Rattle.flowchart_page.specs.declared.subject.Subject.{Subject}
use Rattle.flowchart_page.specs.declared.subject.Subject.TheVariants.{Flowchart, Run, Coverage}
use Rattle.page_frame.specs.Starts.{page_start}
use Rattle.page_frame.specs.Styles.{style_sheet}

-- what stands between the style sheet and the title of the page's body
abbrev pub body_start : List ℕ
body_start =
    codes "\n</style>\n</head>\n<body>\n<a class=\"skip\" href=\"#methods\">Skip to the drawings</a>\n<header><h1>"

-- the end of the title in the head of a page, which says what the page shows
abbrev pub title_end : Subject → List ℕ
title_end Flowchart = codes ": flowchart</title>\n<style>\n"
title_end Run = codes ": run</title>\n<style>\n"
title_end Coverage = codes ": coverage</title>\n<style>\n"

-- a page that shows this, up to the title of its body, with which that of its head begins
abbrev pub head_start : Subject → List ℕ → List ℕ
head_start subject title =
    page_start ++ (escaped title ++ (title_end subject ++ (style_sheet ++ (body_start ++ escaped title))))

-- the version of a plan, where it has one, and the end of the title
abbrev pub version_text : Option (List ℕ) → List ℕ
version_text (Some version) = codes " <small>" ++ (escaped version ++ codes "</small></h1>\n")
version_text None = codes "</h1>\n"

-- the comments before the plan, where there are some
abbrev pub lead_text : List (String Global) → List ℕ
lead_text [] = []
lead_text (comment ∷ comments) =
    codes "<p class=\"lead\">" ++ (comments_text (comment ∷ comments) ++ codes "</p>\n")

-- what a page that shows this has before its verdict, with this title
abbrev pub page_head : Subject → List ℕ → Option (List ℕ) → List (String Global) → List ℕ
page_head subject title version lead = head_start subject title ++ (version_text version ++ lead_text lead)
