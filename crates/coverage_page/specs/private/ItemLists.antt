-- Which items a list has.
use Rattle.std.specs.Prelude.{Bool}
use Rattle.coverage_text.specs.CoverageItems.{CoverageItem, is_never_reached, is_unreachable}
use Rattle.coverage_page.specs.declared.item_list.ItemList.{ItemList}
use Rattle.coverage_page.specs.declared.item_list.ItemList.TheVariants as lists

-- the list has an item to which no run came, or one to which none within the ranges may come
abbrev pub is_in_list : ItemList → CoverageItem → Bool
is_in_list lists.NeverReached = is_never_reached
is_in_list lists.Unreachable = is_unreachable
