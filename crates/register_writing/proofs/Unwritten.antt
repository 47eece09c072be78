-- A write that is refused gives length 0 and leaves every byte of the buffer: of any text, and of a
-- register. Assumes nothing.
use Rattle.std.proofs.Common.{Err, ◌≡◌, refl, List, ℕ, arith, leb-false, leb, length}
use Rattle.lists.specs.Tests.{cases}
use Rattle.register.specs.declared.Register.{Register}
use Rattle.soundness_rules.specs.Sound.{sound}
use Rattle.refusals.specs.declared.Refusal.{Refusal}
use Rattle.buffers.specs.Buffers.{put}
use Rattle.buffers.specs.Laws.{put_short}
use Rattle.text_rules.specs.Registers.{register_text}
use Rattle.buffers.specs.Delivery.{delivered}
use Rattle.register_writing.specs.Writing.{register_written, register_buffer}

module _ (old : List ℕ) (why : Refusal) where
  pub text_unwritten : (t : List ℕ) → (delivered t old).outcome ≡ Err why → ((delivered t old).length ≡ 0) × (put 0 t old ≡ old)
  unfolding delivered
  text_unwritten t e =
      cases (leb (length t) (length old))
      (λ fits. let never : ◌≡◌ {A = ℕ} 0 1 = cc (rw fits at e) in absurd (omega arith))
      (λ short. rw short (refl, (put_short 0 t old (omega (arith, leb-false (length t) (length old) short))).0))

  pub register_unwritten : (r : Register) → (register_written r old).outcome ≡ Err why → ((register_written r old).length ≡ 0) × (register_buffer r old ≡ old)
  unfolding register_written register_buffer
  register_unwritten r e =
      cases (sound r) (λ fine. rw fine (text_unwritten (register_text r) (rw fine at e))) (λ broken. rw broken (refl, refl))
