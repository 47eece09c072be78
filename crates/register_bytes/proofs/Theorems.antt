-- What is proved of a register and the bytes of its struct. Assumes nothing.
use Rattle.std.proofs.Common.{◌≡◌, List, ℕ, ◌<◌, length}
use Rattle.lists.specs.Lists.{All}
use Rattle.register.specs.Register.{Shaped}
use Rattle.register.specs.declared.Register.{Register}
use Rattle.register_bytes.specs.Bytes.{register_size, versionless, register_in, image_of, Wide}
use Rattle.register_bytes.specs.Laws as laws
use Rattle.register_bytes.proofs.Whole as whole

-- 1. The bytes of a register hold that register.
pub image_read : (r : Register) → Shaped r → Wide r → register_in (image_of r) ≡ r
image_read = whole.image_read

-- 2. They are always as many.
pub image_length : (r : Register) → Shaped r → length (image_of r) ≡ register_size
image_length = whole.image_length

-- 3. As many bytes are those of the register that they hold: every byte is a field's.
pub read_image : (bytes : List ℕ) → length bytes ≡ register_size → All (λ b. b < 256) bytes → image_of (register_in bytes) ≡ bytes
read_image = whole.read_image

-- 4. Any other number of bytes holds the register of version 0.
pub read_other : (bytes : List ℕ) → (length bytes ≡ register_size → ⊥) → register_in bytes ≡ versionless
read_other = laws.register_other
