use Rattle.std.proofs.Common.{refl}
use Rattle.std.proofs.lemmas.Bool.{false≢true}
use Rattle.toml.specs.View.{table_view}
use Rattle.limits_file.proofs.InputParts.{low_missing, high_missing, unsound}
use Rattle.range_faults.proofs.bounds.limit_of.Goals as goal

pub returns-in_err-low : goal.returns-in_err-low
returns-in_err-low c = rw c.from_residual.ensures (low_missing c.args.name (table_view c.args.entry.now) (c.in_err-low.ensures))

pub returns-in_err-high : goal.returns-in_err-high
returns-in_err-high c = rw c.from_residual-in_err-high.ensures (high_missing c.args.name (table_view c.args.entry.now) (c.in_err-high.ensures))

pub returns-else-has_sound_bounds : goal.returns-else-has_sound_bounds
returns-else-has_sound_bounds c =
    unsound c.args.name (table_view c.args.entry.now) (record { name = c.args.name; low = c.in_ok-low.low; high = c.in_ok-high.high; places = c.in_ok-places.places }) refl c.in_ok-low.ensures c.in_ok-high.ensures c.in_ok-places.ensures (λ sound. false≢true (c.if-has_sound_bounds.ensures.1 sound))
