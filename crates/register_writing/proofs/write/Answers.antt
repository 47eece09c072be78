-- A register that is not sound is refused; of a sound one the array's front is the text, which is delivered.
use Rattle.std.proofs.Common.{ℕ, ◌≡◌, ◌≤◌, true, List, sym, ap, ◌∙◌, arith, rules, length, take, replicate}
use Rattle.std.proofs.lemmas.Bool.{not-true, not-false}
use Rattle.std.proofs.Math.ListN.{length-replicate}
use Rattle.std.proofs.Math.Seq.{length-take-le}
use Rattle.lists.specs.Lists.{splice}
use Rattle.lists.specs.Loops.{length_mapped}
use Rattle.register.specs.Limits.{claim_limit}
use Rattle.register.specs.declared.Register.{Register}
use Rattle.soundness_rules.specs.Sound.{sound}
use Rattle.soundness.specs.Judged.{register_by}
use Rattle.soundness.specs.Opened.{Opened}
use Rattle.soundness.specs.Laws.{register_same, examined, judged_sound}
use Rattle.soundness.specs.declared.Findings.{Findings}
use Rattle.buffers.specs.Buffers.{put}
use Rattle.buffers.specs.Laws.{splice_front}
use Rattle.text_rules.specs.Registers.{text_limit}
use Rattle.text_rules.proofs.Lengths.{text_length}
use Rattle.buffers.specs.Delivery.{delivered}
use Rattle.register_writing.proofs.Laws.{text_told, register_unsound, register_sound}
use Rattle.register_writing.proofs.write.Goals as goal

-- a blank array is as long as it was made
blank_room : (n : ℕ) → n ≤ length {A = ℕ} (replicate n 0)
blank_room n = omega (arith, length-replicate {A = ℕ} n 0)

-- a register that was found sound is sound, and so is the one of its parts
module _ (r : Register) (full : length r.claims.list ≡ claim_limit) {s : List ℕ} {found : Findings} (opened : Opened r s found) (told : found.sound ≡ true) where
  wholly : sound r ≡ true
  wholly = sym (judged_sound r opened full) ∙ told

  parts_sound : sound (register_by r.version r.actors r.resources s r.claims.count) ≡ true
  parts_sound = ap (λ l. sound (register_by r.version r.actors r.resources l r.claims.count)) opened.put ∙ register_same r full ∙ wholly

pub returns-then-not-found : goal.returns-then-not-found
returns-then-not-found c =
    let r = c.args.r in
    let places : length r.claims.list ≡ claim_limit = search (rules, length_mapped) in
    let opened = examined r (c.examine-found.ensures.put, c.examine-found.ensures.found) in
    let refused = register_unsound r c.args.buf.now (sym (judged_sound r opened places) ∙ not-true _ c.if-not-found.true) in
    record { answer = refused.0; buffer = refused.1 }

pub compose-length-requires : goal.compose-length-requires
compose-length-requires c =
    let r = c.args.r in
    let places : length r.claims.list ≡ claim_limit = search (rules, length_mapped) in
    let opened = examined r (c.examine-found.ensures.put, c.examine-found.ensures.found) in
    let told = not-false _ c.if-not-found.false in
    (parts_sound r places opened told, blank_room 39789)

pub slice_bounds-made-end : goal.slice_bounds-made-end
slice_bounds-made-end c =
    let r = c.args.r in
    let places : length r.claims.list ≡ claim_limit = search (rules, length_mapped) in
    let opened = examined r (c.examine-found.ensures.put, c.examine-found.ensures.found) in
    let told = not-false _ c.if-not-found.false in
    let call = c.compose-length in
    let whole = parts_sound r places opened told in
    let full : length call.new.buf ≡ text_limit = call.auto.buf ∙ length-replicate {A = ℕ} 39789 0 in
    omega (arith, full, call.ensures.length, text_length _ whole)

pub slice_bounds-deliver-end : goal.slice_bounds-deliver-end
slice_bounds-deliver-end c =
    let r = c.args.r in
    let places : length r.claims.list ≡ claim_limit = search (rules, length_mapped) in
    let opened = examined r (c.examine-found.ensures.put, c.examine-found.ensures.found) in
    let told = not-false _ c.if-not-found.false in
    let call = c.compose-length in
    let whole = parts_sound r places opened told in
    let full : length call.new.buf ≡ text_limit = call.auto.buf ∙ length-replicate {A = ℕ} 39789 0 in
    sym (length-take-le _ call.new.buf (omega (arith, full, call.ensures.length, text_length _ whole)))

-- the array's front is the text
front : (text : List ℕ) (old : List ℕ) {n : ℕ} {new : List ℕ} → n ≡ length text → new ≡ splice 0 text old → take n new ≡ text
front text old many written = rw (many, written) (splice_front text old)

pub returns : goal.returns
returns c =
    let r = c.args.r in
    let places : length r.claims.list ≡ claim_limit = search (rules, length_mapped) in
    let opened = examined r (c.examine-found.ensures.put, c.examine-found.ensures.found) in
    let told = not-false _ c.if-not-found.false in
    let old = c.args.buf.now in
    let composed = c.compose-length in
    let sounded = register_sound r old (wholly r places opened told) in
    let text = front _ _ composed.ensures.length composed.ensures.written ∙ text_told r places opened.put in
    record {
      answer = c.deliver.ensures.answer ∙ ap (λ (t : List ℕ). delivered t old) text ∙ sym sounded.0;
      buffer = c.deliver.ensures.buffer ∙ ap (λ (t : List ℕ). put 0 t old) text ∙ sym sounded.1;
    }
