-- What is proved of the fixed examples of 01, which stand in specs/Table. Assumes nothing.
use Rattle.std.proofs.Common.{◌≡◌, Bool, true, [], ℕ}
use Prim.Native.String.{String}
use Rattle.lists.specs.Lists.{every}
use Rattle.lists.specs.Bytes.{bytes}
use Rattle.paths.specs.Containment.{contained}
use Rattle.register.specs.Chain.{live, weighing}
use Rattle.examples.specs.Table.{holds, inside, table, lives}
use Rattle.examples.proofs.Examples as examples

-- 1. Every example of the table holds.
pub examples_hold : every holds table ≡ true
examples_hold = examples.examples_hold

-- 2a. An example of a containment that holds is that containment.
pub inside_sound : (inner outer : String) (answer : Bool) →
    holds (inside inner outer answer) ≡ true → contained (bytes outer) (bytes inner) ≡ answer
inside_sound = examples.inside_sound

-- 2b. An example of a live claim that holds is that liveness.
pub lives_sound : (weight expiry moment : ℕ) (answer : Bool) →
    holds (lives weight expiry moment answer) ≡ true → live moment [] (weighing weight expiry) ≡ answer
lives_sound = examples.lives_sound
