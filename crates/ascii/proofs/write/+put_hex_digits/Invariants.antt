-- The places that are left fall.
use Rattle.ascii.proofs.write.+put_hex_digits.Given as goal

abbrev pub decreases-put_hex_digits : goal.decreases-put_hex_digits
decreases-put_hex_digits l = l.places
