-- How a page begins. Source: HTML.
use Rattle.std.specs.Prelude.{ℕ, List, codes}

-- how a page begins, up to its title
abbrev pub page_start : List ℕ
page_start =
    codes "<!DOCTYPE html>\n<html lang=\"en\">\n<head>\n<meta charset=\"utf-8\">\n<meta name=\"viewport\" content=\"width=device-width, initial-scale=1\">\n<title>"
