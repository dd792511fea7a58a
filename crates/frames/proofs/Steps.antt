-- The loop over lines, for every reader: what holds of the reading at the start of each line (`AtLine`), that a good line keeps it (`line_goes_on`), and
-- how the reading stops at a faulty line (`line_stops`), at something wrong in it (`wrong_stops`) or at the end of the text (`end_stops`). What is then
-- told is the text's fault (`stopped_fault`). Assumes nothing.
use mathlib.Core.Path.{◌≡◌, refl, sym, ◌∙◌, ap}
use mathlib.Core.Logic.{◌≢◌}
use mathlib.Core.Bool.{Bool, true, false, cond}
use mathlib.Core.List.{List, [], ◌∷◌}
use Prim.Native.Nat.{ℕ, suc, ◌+◌, ◌-◌, ◌≤◌}
use native.Mathlib.Omega.{arith}
use native.Mathlib.Numerals.{add-one}
use lib.Dec.{eqb}
use lib.ListN.{length, drop, drop_of_length-le}
use borrow.Author.Tests.{ne_eqb}
use Rattle.rules.specs.Lines.{Fault, fault, fine, Line, line, lines_of}
use Rattle.rules.specs.Frames.{frame_of, byte_at, Reader, Read, bad, got, line_fault, read_from, fault_of}
use Rattle.frames.specs.Digits.{pair_at}
use Rattle.frames.specs.Faults.{line_fault_of, end_fault}
use Rattle.frames.specs.Kinds.{row_for}
use Rattle.frames.specs.Texts.{reached_from}
use Rattle.frames.specs.declared.digits.Pair.TheVariants.{LineFeed, Wrong}
use Rattle.frames.proofs.Lines.{misshapen_read, misshapen_reached}
use Rattle.frames.proofs.InLine.{InLine, line_feed_lem, line_wrong}
use Rattle.frames.specs.Texts.{Kept}
use Rattle.frames.proofs.Judged.{line_judged}

-- LINES ARE COUNTED from 1, and each has a character at least
pub record Counted (text : List ℕ) (at number : ℕ) : Type 0 where
  pub within : at ≤ length text
  pub first : 1 ≤ number
  pub counted : number ≤ at + 1

pub counted_next : {text : List ℕ} {at number to : ℕ} {bytes : List ℕ} {size total : ℕ} → Counted text at number →
    InLine text at to bytes size total → pair_at text to ≡ LineFeed → Counted text (to + 1) (number + 1)
counted_next {text} {at} {number} {to} {bytes} {size} {total} h q e =
    record {
      within = let w = (line_feed_lem text at to bytes size total q e).0 in omega arith;
      first = omega arith;
      counted = let o = h.counted in omega (arith, q.passed);
    }

-- AT THE START OF A LINE what is left of the text leads from the reading so far to where the whole text leads
pub record AtLine {S : Type 0} (r : Reader S) (begin : S) (text : List ℕ) (at number : ℕ) (u : S) : Type 0 where
  pub rest : read_from r number u (lines_of (drop at text)) ≡ read_from r 1 begin (lines_of text)
  pub reach : reached_from r u (lines_of (drop at text)) ≡ reached_from r begin (lines_of text)

-- WHERE THE READING STOPS: the number of the first fault (0: none) and its line (one past the last), and the reading there
pub record Stopped {S : Type 0} (r : Reader S) (begin : S) (text : List ℕ) (number line : ℕ) (u : S) : Type 0 where
  pub reach : u ≡ reached_from r begin (lines_of text)
  pub outcome : read_from r 1 begin (lines_of text) ≡ cond (eqb number 0) (read_from r line u []) (bad (fault number line))

module _ {S : Type 0} (r : Reader S) (begin : S) where
  module _ {text : List ℕ} {at number : ℕ} {u : S} (h : AtLine r begin text at number u) where
    -- the first line left is faulty
    stops : (n : ℕ) → n ≢ 0 → read_from r number u (lines_of (drop at text)) ≡ bad (fault n number) →
        reached_from r u (lines_of (drop at text)) ≡ u → Stopped r begin text n number u
    stops n z e p = record { reach = sym p ∙ h.reach; outcome = rw (ne_eqb n 0 z) (sym h.rest ∙ e) }

    -- the end of the text
    pub end_stops : length text ≤ at → Stopped r begin text 0 number u
    unfolding reached_from lines_of
    end_stops z =
        record {
          reach = sym (ap (reached_from r u) none) ∙ h.reach;
          outcome = sym h.rest ∙ ap (read_from r number u) none;
        }
      where
        none : lines_of (drop at text) ≡ []
        none = rw (drop_of_length-le text z)

    module _ {to : ℕ} {bytes : List ℕ} {size total : ℕ} (q : InLine text at to bytes size total) where
      -- something wrong in the line
      pub wrong_stops : pair_at text to ≡ Wrong → Stopped r begin text 2 number u
      wrong_stops e =
          let m = line_wrong text at to bytes size total q e in
          stops 2 (omega arith) (misshapen_read r u number m) (misshapen_reached r u m)

      -- a line feed: `found` is the fault of the frame as the code finds it, and `n` so that of the line
      module _ (e : pair_at text to ≡ LineFeed) {found n : ℕ} (law : Kept r.text bytes (frame_of q.digits) → found ≡ r.fault u (frame_of q.digits))
          (is : n ≡ line_fault_of size total (row_for r.text (byte_at bytes 0)) found) where
        -- the line that ends here, and those behind it
        whole : Line
        whole = line q.digits true

        lines : lines_of (drop at text) ≡ whole ∷ lines_of (drop (to + 1) text)
        unfolding whole
        lines = (line_feed_lem text at to bytes size total q e).1

        same_fault : n ≡ line_fault r u whole
        unfolding whole
        same_fault = is ∙ line_judged r q u found law

        -- the line is faulty
        pub line_stops : n ≢ 0 → Stopped r begin text n number u
        unfolding read_from reached_from
        line_stops z = stops n z read reached
          where
            nonzero : line_fault r u whole ≢ 0
            nonzero p = z (same_fault ∙ p)

            read : read_from r number u (lines_of (drop at text)) ≡ bad (fault n number)
            read = rw (lines, ne_eqb (line_fault r u whole) 0 nonzero) (ap (λ (k : ℕ). bad (fault k number)) (sym same_fault))

            reached : reached_from r u (lines_of (drop at text)) ≡ u
            reached = rw (lines, ne_eqb (line_fault r u whole) 0 nonzero)

        -- the line is good: all its bytes are kept, the reader finds no fault in its frame, and the reading goes on behind it
        module _ (z : n ≡ 0) where
          good : line_fault r u whole ≡ 0
          good = sym same_fault ∙ z

          pub line_goes_on : AtLine r begin text (to + 1) (number + 1) (r.after u (frame_of q.digits))
          unfolding read_from reached_from whole
          line_goes_on = record { rest = rw (add-one number) (sym read ∙ h.rest); reach = sym reached ∙ h.reach }
            where
              next : S
              next = r.after u (frame_of q.digits)

              read : read_from r number u (lines_of (drop at text)) ≡ read_from r (suc number) next (lines_of (drop (to + 1) text))
              read = rw (lines, good)

              reached : reached_from r u (lines_of (drop at text)) ≡ reached_from r next (lines_of (drop (to + 1) text))
              reached = rw (lines, good)

-- WHAT IS TOLD then is the text's fault, with the reader's own tests after the last line
module _ {S : Type 0} (r : Reader S) (u : S) where
  -- the three tests: no fault in the lines, an end, nothing wrong at the end's line
  tests : (n i last : ℕ) → (good ended fits : Bool) → Fault
  tests n i k a b z = cond a (cond b (cond z fine (fault k (i - 1))) (fault 5 i)) (fault n i)

  outcome : (n i last : ℕ) → (good ended fits : Bool) → Read S
  outcome n i k a b z = cond a (cond b (cond z (got u) (bad (fault k (i - 1)))) (bad (fault 5 i))) (bad (fault n i))

  by_tests : (n i k : ℕ) (a b z : Bool) → tests n i k a b z ≡ fault_of (outcome n i k a b z)
  unfolding tests outcome
  by_tests n i k false b z = refl
  by_tests n i k true false z = refl
  by_tests n i k true true false = refl
  by_tests n i k true true true = refl

  pub stopped_fault : {begin : S} {text : List ℕ} {n i : ℕ} → Stopped r begin text n i u →
      end_fault n i (r.is_ended u) (r.last u) ≡ fault_of (read_from r 1 begin (lines_of text))
  unfolding end_fault tests outcome read_from
  stopped_fault {n = n} {i = i} s = by_tests n i (r.last u) (eqb n 0) (r.is_ended u) (eqb (r.last u) 0) ∙ ap fault_of (sym s.outcome)
