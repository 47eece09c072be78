-- Believed: What writing a register into a lent buffer answers, and what it leaves there.
use Rattle.std.specs.Prelude.{ℕ, List, cond}
use Rattle.register.specs.declared.Register.{Register}
use Rattle.soundness_rules.specs.Sound.{sound}
use Rattle.refusals.specs.declared.Refusal.TheVariants.{Unsound}
use Rattle.buffers.specs.Buffers.{put}
use Rattle.buffers.specs.Delivery.{unwritten, delivered}
use Rattle.text_rules.specs.Registers.{register_text}
use Rattle.buffers.specs.declared.Written.{Written}

-- Writing tests 1, then 21.
unfoldable pub register_written : Register → List ℕ → Written
register_written r old = cond (sound r) (delivered (register_text r) old) (unwritten Unsound)

-- past the text the buffer keeps its bytes; refused, all of them
unfoldable pub register_buffer : Register → List ℕ → List ℕ
register_buffer r old = cond (sound r) (put 0 (register_text r) old) old
