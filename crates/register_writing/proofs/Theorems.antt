-- What is proved of writing into a lent buffer: a refused write leaves it as it was. Assumes nothing.
use Rattle.std.proofs.Common.{Err, ◌≡◌, List, ℕ}
use Rattle.register.specs.declared.Register.{Register}
use Rattle.refusals.specs.declared.Refusal.{Refusal}
use Rattle.buffers.specs.Buffers.{put}
use Rattle.buffers.specs.Delivery.{delivered}
use Rattle.register_writing.specs.Writing.{register_written, register_buffer}
use Rattle.register_writing.proofs.Unwritten as unwriting

-- 1a. A text that is refused its buffer gives length 0 and leaves every byte: the text of an action, of a verdict, a word.
pub text_unwritten : (old : List ℕ) (why : Refusal) (t : List ℕ) → (delivered t old).outcome ≡ Err why → ((delivered t old).length ≡ 0) × (put 0 t old ≡ old)
text_unwritten = unwriting.text_unwritten

-- 1b. A register that is refused its writing, unsound or with a short buffer, gives length 0 and leaves every byte.
pub register_unwritten : (old : List ℕ) (why : Refusal) (r : Register) → (register_written r old).outcome ≡ Err why
    → ((register_written r old).length ≡ 0) × (register_buffer r old ≡ old)
register_unwritten = unwriting.register_unwritten
