-- The number falls, since a tenth of it is less.
use Rattle.decimals.proofs.+write_digits.Given as goal

abbrev pub decreases-write_digits : goal.decreases-write_digits
decreases-write_digits l = l.n
