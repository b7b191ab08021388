-- How many bits a width has.
use Rattle.std.specs.Prelude.{ℕ}
use Rattle.scaled_decimal.specs.WholeNumbers.{int_bits, long_bits}
use Rattle.interval_num.specs.declared.wholes.Width.{Width}
use Rattle.interval_num.specs.declared.wholes.Width.TheVariants.{Int, Long}

abbrev pub bits_of : Width → ℕ
bits_of Int = int_bits
bits_of Long = long_bits
