-- Laws: The records that are read one behind the other, by their places; and which bytes hold a register. Assumes nothing.
use Rattle.std.specs.Prelude.{◌≡◌, List, ◌∷◌, map, length, drop, get_or, ℕ, zero, suc, ◌+◌, ◌*◌, ◌≤◌, ◌<◌}
use Rattle.std.proofs.Common.{sym, ◌∙◌, eq-eqb, ne_eqb, length-take, length-drop, arith}
use Rattle.std.proofs.Math.Path.{refl, ap}
use Rattle.lists.specs.Lists.{All, counted}
use Rattle.register.specs.Limits.{actor_limit, resource_limit, claim_limit, path_limit}
use Rattle.register.specs.Register.{Shaped}
use Rattle.register_bytes.specs.Bytes.{number_size, wide_size, actor_size, resource_size, claim_size, resources_at, claims_at, register_size, actor_in, resource_in, claim_in, number_in, records_in, register_at, versionless, register_in}

module _ {A : Type 0} (read : ℕ → A) (size : ℕ) where
  pub records_length : (n at : ℕ) → length (records_in read size at n) ≡ n
  unfolding records_in
  records_length zero at = refl
  records_length (suc n) at = ap suc (records_length n (at + size))

  pub record_at : (n at i : ℕ) (d : A) → i < n → get_or (records_in read size at n) i d ≡ read (at + i * size)
  unfolding records_in
  record_at zero at i d h = absurd (omega arith)
  record_at (suc n) at zero d h = let same : at + zero * size ≡ at = omega arith in rw same
  record_at (suc n) at (suc i) d h =
      let same : at + size + i * size ≡ at + suc i * size = omega arith in record_at n (at + size) i d (omega arith) ∙ ap read same

  -- what holds of what is read at each place within some bytes holds of each record
  pub records_all : (Q : A → Type 0) (end : ℕ) → ((at : ℕ) → at + size ≤ end → Q (read at)) → (n at : ℕ) → at + n * size ≤ end → All Q (records_in read size at n)
  unfolding records_in
  records_all Q end each zero at room = tt
  records_all Q end each (suc n) at room =
      let more : size + n * size ≡ suc n * size = omega arith in
      (each at (omega (arith, more)), records_all Q end each n (at + size) (omega (arith, more)))

  from_counted : (n at first : ℕ) → records_in read size (at + first * size) n ≡ map (λ k. read (at + k * size)) (counted first n)
  unfolding records_in
  from_counted zero at first = refl
  from_counted (suc n) at first =
      let next : at + first * size + size ≡ at + suc first * size = omega arith in
      ap (λ l. read (at + first * size) ∷ l) (ap (λ k. records_in read size k n) next ∙ from_counted n at (suc first))

  -- they are what is read at each place, counted from the first
  pub records_counted : (n at : ℕ) → records_in read size at n ≡ map (λ k. read (at + k * size)) (counted 0 n)
  records_counted n at = let same : at + 0 * size ≡ at = omega arith in ap (λ k. records_in read size k n) (sym same) ∙ from_counted n at 0

-- a number by its four bytes, and a wide one by its two numbers
pub number_bytes : (at : ℕ) (bytes : List ℕ)
    → get_or bytes at 0 + 256 * get_or bytes (at + 1) 0 + 65536 * get_or bytes (at + 2) 0 + 16777216 * get_or bytes (at + 3) 0 ≡ number_in number_size at bytes
unfolding number_in
number_bytes at bytes =
    let two : at + 1 + 1 ≡ at + 2 = omega arith in
    let three : at + 2 + 1 ≡ at + 3 = omega arith in
    rw (two, three) (omega arith)

pub wide_numbers : (at : ℕ) (bytes : List ℕ)
    → number_in number_size at bytes + 4294967296 * number_in number_size (at + number_size) bytes ≡ number_in wide_size at bytes
unfolding number_in
wide_numbers at bytes =
    let four : at + 1 + 1 + 1 + 1 ≡ at + 4 = omega arith in
    rw four (omega arith)

-- as many bytes as a register has hold one, and others that of version 0
pub register_in_lem : (bytes : List ℕ) → length bytes ≡ register_size → register_in bytes ≡ register_at bytes
unfolding register_in
register_in_lem bytes long = rw (eq-eqb (length bytes) register_size long)

pub register_other : (bytes : List ℕ) → (length bytes ≡ register_size → ⊥) → register_in bytes ≡ versionless
unfolding register_in
register_other bytes other = rw (ne_eqb (length bytes) register_size other)

-- the register that is read has its shape
pub register_shaped : (bytes : List ℕ) → length bytes ≡ register_size → Shaped (register_at bytes)
register_shaped bytes long = record {
  actors = records_length (actor_in bytes) actor_size actor_limit 0;
  resources = records_length (resource_in bytes) resource_size resource_limit resources_at;
  paths = records_all (resource_in bytes) resource_size (λ o. length o.path ≡ path_limit) (length bytes)
      (λ at room. omega (arith, room, length-take path_limit (drop (at + 4 * number_size) bytes), length-drop (at + 4 * number_size) bytes)) resource_limit resources_at (omega (arith, long));
  claims = records_length (claim_in bytes) claim_size claim_limit claims_at;
}
