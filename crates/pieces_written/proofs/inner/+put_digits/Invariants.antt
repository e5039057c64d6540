-- The measure is how many digits may stand.
use Rattle.pieces_written.proofs.inner.+put_digits.Given as goal

abbrev pub decreases-put_digits : goal.decreases-put_digits
decreases-put_digits l = l.most
