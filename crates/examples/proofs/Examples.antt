-- The fixed examples hold, by computing the definitions that the contracts cite. Assumes nothing.
use Rattle.std.proofs.Common.{◌≡◌, refl, Bool, true, [], ℕ}
use Prim.Native.String.{String}
use Rattle.lists.specs.Tests.{beq_same}
use Rattle.lists.specs.Lists.{every, same}
use Rattle.lists.specs.Bytes.{bytes}
use Rattle.paths.specs.Containment.{components, climbing, trimmed, starting, contained}
use Rattle.register.specs.Chain.{chain, live, weighing}
use Rattle.examples.specs.Table.{holds, inside, table, lives}

-- an example of a containment that holds is that containment
pub inside_sound : (inner outer : String) (answer : Bool) →
    holds (inside inner outer answer) ≡ true → contained (bytes outer) (bytes inner) ≡ answer
inside_sound inner outer answer h = beq_same (contained (bytes outer) (bytes inner)) answer h

-- an example of a live claim that holds is that liveness
pub lives_sound : (weight expiry moment : ℕ) (answer : Bool) →
    holds (lives weight expiry moment answer) ≡ true → live moment [] (weighing weight expiry) ≡ answer
lives_sound weight expiry moment answer h = beq_same (live moment [] (weighing weight expiry)) answer h

-- every example of the table holds
pub examples_hold : every holds table ≡ true
unfolding contained climbing components same trimmed starting chain
examples_hold = refl
