-- A pair of digits in a text. Assumes nothing: these are definitions.
use Rattle.std.specs.Prelude.{Bool, ◌&&◌, cond, List, ℕ, ◌+◌, ◌*◌, ltb, eqb, length, get_or}
use Rattle.std.specs.declared.option.Option.{Option}
use Rattle.std.specs.declared.option.Option.TheVariants.{None, Some}
use Rattle.rules.specs.Lines.{is_digit, line_feed}
use Rattle.rules.specs.Frames.{digit_of}
use Rattle.frames.specs.declared.digits.Pair.{Pair}
use Rattle.frames.specs.declared.digits.Pair.TheVariants.{Byte, LineFeed, Wrong}

-- what a character is worth, if it is a digit
abbrev pub digit_in : ℕ → Option ℕ
digit_in c = cond (is_digit c) (Some (digit_of c)) None

-- the first character decides alone where it is no digit
unfoldable pub pair_of : (first second : ℕ) → Bool → Pair
pair_of c d z =
    cond (eqb c line_feed) LineFeed (cond (is_digit c && (z && is_digit d)) (Byte (16 * digit_of c + digit_of d)) Wrong)

unfoldable pub pair_at : (text : List ℕ) → (at : ℕ) → Pair
pair_at t i = cond (ltb i (length t)) (pair_of (get_or t i 0) (get_or t (i + 1) 0) (ltb (i + 1) (length t))) Wrong
