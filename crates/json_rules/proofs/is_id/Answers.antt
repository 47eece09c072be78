-- An id is no longer than 64 bytes, and a byte may stand in it where the code's test fails.
use Rattle.std.proofs.Common.{◌≡◌, refl, sym, ◌∙◌, Bool, true, false, not, ◌&&◌, ◌||◌, List, ℕ, ◌+◌, ◌≤◌, ◌<◌, arith, le-leb, ltb-true, ltb-false, eqb, leb, ltb, length, get_or, drop, drop_of_length-le}
use borrow.Author.Tests.{lt-leb}
use Rattle.lists.specs.Tests.{cases}
use Rattle.lists.specs.Lists.{every}
use Rattle.lists.specs.Loops.{drop_next}
use Rattle.json_tokens.specs.Tokens.{quote}
use Rattle.json_rules.specs.Members.{is_id_byte, is_id_text, id_length}
use Rattle.json_rules.proofs.is_id.Goals as goal

-- the code's test on a byte
abbrev is_barred : ℕ → Bool
is_barred b = ((ltb b 32 || ltb 126 b) || eqb b quote) || eqb b 92

leb_turned : (m n : ℕ) → leb m n ≡ not (ltb n m)
leb_turned m n =
    cases (ltb n m) (λ e. rw e (lt-leb m n (ltb-true n m e))) (λ e. rw e (le-leb m n (ltb-false n m e)))

none_of : (a b c d : Bool) → (not a && not b) && not (c || d) ≡ not (((a || b) || c) || d)
none_of true b c d = refl
none_of false true c d = refl
none_of false false true d = refl
none_of false false false d = refl

-- a byte may stand in an id where the code's test fails
id_byte : (b : ℕ) → is_id_byte b ≡ not (is_barred b)
id_byte b = rw (leb_turned 32 b, leb_turned b 126) (none_of (ltb b 32) (ltb 126 b) (eqb b quote) (eqb b 92))

-- what is left of an id is the byte at a place, and what follows it
module _ (id : List ℕ) (i : ℕ) (inside : i < length id) (known : is_id_text id ≡ every is_id_byte (drop i id)) where
  byte_barred : is_barred (get_or id i 0) ≡ true → is_id_text id ≡ false
  byte_barred e = known ∙ rw (drop_next id i 0 inside, id_byte (get_or id i 0), e)

  byte_passed : is_barred (get_or id i 0) ≡ false → is_id_text id ≡ every is_id_byte (drop (i + 1) id)
  byte_passed e = known ∙ rw (drop_next id i 0 inside, id_byte (get_or id i 0), e)

pub returns-then-id-gt-ID_BYTES : goal.returns-then-id-gt-ID_BYTES
unfolding is_id_text
returns-then-id-gt-ID_BYTES c = rw (lt-leb (length c.args.id.now) id_length c.if-id-gt-ID_BYTES.true)

pub loop-b-init : goal.loop-b-init
unfolding is_id_text
loop-b-init c = rw (le-leb (length c.args.id.now) id_length c.if-id-gt-ID_BYTES.false)

pub returns-then-b : goal.returns-then-b
returns-then-b c = sym (byte_barred c.args.id.now c.loop-b.b-index (omega arith) c.loop-b.invariant c.if-b.true)

pub loop-b-preserved : goal.loop-b-preserved
loop-b-preserved c = byte_passed c.args.id.now c.loop-b.b-index (omega arith) c.loop-b.invariant c.if-b.false

pub returns : goal.returns
returns c =
    let all : length c.args.id.now ≤ c.loop-b.b-index = omega arith in
    sym (c.loop-b.invariant ∙ rw (drop_of_length-le c.args.id.now all))
