-- Laws: What a text put into a buffer leaves, and what is answered of one that is delivered, where it fits and where it does not; and the law by
-- which a text that is put part by part is written whole. Assumes nothing.
use Rattle.std.specs.Prelude.{ℕ, ◌+◌, ◌≤◌, ◌<◌, ◌≡◌, refl, List, [], ◌++◌, leb, length, take, drop, Ok}
use Rattle.std.proofs.Common.{sym, ap, ◌∙◌, append_assoc, append-nil, arith, add-zero, length-append, le-leb, leb-true}
use Rattle.std.proofs.Math.Seq.{take-append_seam}
use Rattle.std.proofs.lemmas.Bool.{lt-leb}
use Rattle.lists.specs.Tests.{cases}
use Rattle.lists.specs.Splices.{splice_nil, splice_then, length_splice}
use Rattle.lists.specs.Lists.{splice}
use Rattle.refusals.specs.declared.Refusal.TheVariants.{Buffer}
use Rattle.buffers.specs.Buffers.{put}
use Rattle.buffers.specs.Positions.{behind}
use Rattle.buffers.specs.Delivery.{unwritten, delivered}
use Rattle.buffers.specs.declared.Written.{Written}

-- a text that fits is written, and the position is behind it
pub put_fits : (at : ℕ) (t old : List ℕ) → at + length t ≤ length old → (put at t old ≡ splice at t old) × (behind at t old ≡ at + length t)
put_fits at t old room = rw (le-leb (at + length t) (length old) room) (refl, refl)

-- a text that does not fit is not begun
pub put_short : (at : ℕ) (t old : List ℕ) → length old < at + length t → (put at t old ≡ old) × (behind at t old ≡ at)
put_short at t old short = rw (lt-leb (at + length t) (length old) short) (refl, refl)

-- a text that fits is answered with its length
pub delivered_fits : (t old : List ℕ) (n : ℕ) → length t ≤ length old → n ≡ length t →
    ◌≡◌ {A = Written} (record { outcome = Ok tt; length = n }) (delivered t old)
unfolding delivered
delivered_fits t old n room same = rw (le-leb (length t) (length old) room, same)

-- one that does not, with 21
pub delivered_short : (t old : List ℕ) → length old < length t → unwritten Buffer ≡ delivered t old
unfolding delivered
delivered_short t old short = rw (lt-leb (length t) (length old) short)

-- the length that is answered is within the buffer
pub delivered_within : (t old : List ℕ) → (delivered t old).length ≤ length old
unfolding delivered
delivered_within t old = cases (leb (length t) (length old)) (λ e. rw e (leb-true (length t) (length old) e)) (λ e. rw e (omega arith))

-- what was written at the front is there to be read
pub splice_front : (t old : List ℕ) → take (length t) (splice 0 t old) ≡ t
unfolding splice
splice_front t old = take-append_seam t (drop (0 + length t) old)

-- A text that is written over `old` from `at` on, part by part: what is left of it, the position behind what is done, and the buffer.
pub record Writing (at : ℕ) (whole old rest : List ℕ) (end : ℕ) (new : List ℕ) : Type 0 where
  pub done : List ℕ
  pub text : whole ≡ done ++ rest
  pub place : end ≡ at + length done
  pub buffer : new ≡ splice at done old

-- before the first part all of it is left
pub writing_start : (at : ℕ) (whole old : List ℕ) → Writing at whole old whole at old
writing_start at whole old = record { done = []; text = refl; place = sym (add-zero at); buffer = sym (splice_nil at old) }

module _ {at : ℕ} {whole old : List ℕ} where
  -- the buffer is as long as it was
  pub writing_length : {rest : List ℕ} {end : ℕ} {new : List ℕ} → at + length whole ≤ length old → Writing at whole old rest end new → length new ≡ length old
  writing_length {rest} room w =
      let all = ap length w.text ∙ length-append w.done rest in
      ap length w.buffer ∙ length_splice at w.done old (omega arith)

  -- what is left fits, where the whole does
  pub writing_left : {rest : List ℕ} {end : ℕ} {new : List ℕ} → at + length whole ≤ length old → Writing at whole old rest end new →
      end + length rest ≤ length new
  writing_left {rest} room w =
      let all = ap length w.text ∙ length-append w.done rest in
      omega (arith, all, w.place, writing_length room w)

  -- so does the next part
  pub writing_room : {end : ℕ} {new : List ℕ} (part rest : List ℕ) → at + length whole ≤ length old →
      Writing at whole old (part ++ rest) end new → end + length part ≤ length new
  writing_room part rest room w = omega (arith, length-append part rest, writing_left room w)

  -- the next part is written
  pub writing_next : {end next : ℕ} {new then : List ℕ} (part rest : List ℕ) → at + length whole ≤ length old →
      Writing at whole old (part ++ rest) end new → next ≡ end + length part → then ≡ splice end part new →
      Writing at whole old rest next then
  writing_next {end} {next} {new} {then} part rest room w place written =
      let all = ap length w.text ∙ length-append w.done (part ++ rest) in
      record {
        done = w.done ++ part;
        text = w.text ∙ sym (append_assoc w.done part rest);
        place = omega (arith, w.place, place, length-append w.done part);
        buffer = splice_then at w.done part old new then end (omega arith) w.place w.buffer written;
      }

  -- the next part is put
  pub writing_put : {end next : ℕ} {new then : List ℕ} (part rest : List ℕ) → at + length whole ≤ length old →
      Writing at whole old (part ++ rest) end new → next ≡ behind end part new → then ≡ put end part new →
      Writing at whole old rest next then
  writing_put {end} {next} {new} {then} part rest room w place written =
      let fit = put_fits end part new (writing_room part rest room w) in
      writing_next part rest room w (place ∙ fit.1) (written ∙ fit.0)

  -- after the last part nothing is left
  pub writing_done : {end : ℕ} {new : List ℕ} → Writing at whole old [] end new → (end ≡ at + length whole) × (new ≡ splice at whole old)
  writing_done w = let same = w.text ∙ append-nil w.done in rw same (w.place, w.buffer)

  -- all that is left is written
  pub writing_last : {part : List ℕ} {end next : ℕ} {new then : List ℕ} → at + length whole ≤ length old →
      Writing at whole old part end new → next ≡ end + length part → then ≡ splice end part new →
      (next ≡ at + length whole) × (then ≡ splice at whole old)
  writing_last {part} {end} {next} {new} {then} room w place written =
      let all = ap length w.text ∙ length-append w.done part in (
        omega (arith, all, w.place, place),
        splice_then at w.done part old new then end (omega arith) w.place w.buffer written ∙ rw w.text,
      )
