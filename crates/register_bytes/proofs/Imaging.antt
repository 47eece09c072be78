-- A record is read where its bytes stand, and the bytes of a record that was read are those that stand there: for an actor, a resource, a claim and a
-- whole register. Assumes nothing.
use Rattle.std.proofs.Common.{◌≡◌, sym, ap, ◌∙◌, List, [], ◌∷◌, ◌++◌, map, append_assoc, ℕ, ◌+◌, ◌*◌, ◌^◌, ◌≤◌, ◌<◌, arith, length, take, drop, get_or, length-append, take_at}
use Rattle.lists.specs.Lists.{All}
use Rattle.register.specs.Limits.{path_limit}
use Rattle.register.specs.declared.Actor.{Actor}
use Rattle.register.specs.declared.Resource.{Resource}
use Rattle.register.specs.declared.Claim.{Claim}
use Rattle.lists.specs.Lists.{counted}
use Rattle.register_bytes.specs.Bytes.{number_size, wide_size, actor_size, resource_size, claim_size, number_in, field_in, actor_in, resource_in, claim_in, bytes_of, bytes_of_all, actor_fields, resource_fields, claim_fields, actor_image, resource_image, claim_image}
use Rattle.register_bytes.specs.Laws.{records_counted}
use Rattle.register_bytes.proofs.Reading.{bytes_of_length, behind, number_read, all_length, records_read, joined, number_written, records_written}

-- ---- numbers that stand one behind the other

abbrev Narrow : ℕ → Type 0
Narrow n = n < 256 ^ number_size

abbrev numbers_image : List ℕ → List ℕ
numbers_image ns = bytes_of_all (bytes_of number_size) ns

each_long : (ns : List ℕ) → All (λ n. length (bytes_of number_size n) ≡ number_size) ns
each_long [] = tt
each_long (n ∷ ns) = (bytes_of_length number_size n, each_long ns)

numbers_length : (ns : List ℕ) → length (numbers_image ns) ≡ length ns * number_size
numbers_length ns = all_length (bytes_of number_size) number_size ns (each_long ns)

module _ (bytes : List ℕ) where
  abbrev fields : ℕ → ℕ → List ℕ
  fields at n = map (field_in bytes at) (counted 0 n)

  fields_read : (ns : List ℕ) (at : ℕ) (rest : List ℕ) → All Narrow ns → drop at bytes ≡ numbers_image ns ++ rest → fields at (length ns) ≡ ns
  fields_read ns at rest narrow e =
      sym (records_counted (λ k. number_in number_size k bytes) number_size (length ns) at)
      ∙ records_read (bytes_of number_size) number_size bytes (λ k. number_in number_size k bytes) Narrow
      (λ n k rest small here. number_read number_size n k bytes rest small here) ns at rest (each_long ns) narrow e

  -- ---- each record where its bytes stand

  pub actor_read : (a : Actor) (at : ℕ) (rest : List ℕ) → All Narrow (actor_fields a) → drop at bytes ≡ actor_image a ++ rest → actor_in bytes at ≡ a
  actor_read a at rest narrow e =
      ap (λ l. record { id = get_or l 0 0; kind = get_or l 1 0; owner = get_or l 2 0 }) (fields_read (actor_fields a) at rest narrow e)

  pub resource_read : (o : Resource) (at : ℕ) (rest : List ℕ) → All Narrow (resource_fields o) × (length o.path ≡ path_limit)
      → drop at bytes ≡ resource_image o ++ rest → resource_in bytes at ≡ o
  resource_read o at rest held e =
      let numbers = numbers_image (resource_fields o) in
      let split : drop at bytes ≡ numbers ++ (o.path ++ rest) = e ∙ append_assoc numbers o.path rest in
      let path : take path_limit (drop (at + 4 * number_size) bytes) ≡ o.path =
      ap (take path_limit) (behind bytes at (4 * number_size) numbers (o.path ++ rest) split (numbers_length (resource_fields o)))
      ∙ take_at o.path rest path_limit held.1 in
      rw path (ap (λ l. record { id = get_or l 0 0; public = get_or l 1 0; keeper = get_or l 2 0; len = get_or l 3 0; path = o.path })
      (fields_read (resource_fields o) at (o.path ++ rest) held.0 split))

  pub claim_read : (c : Claim) (at : ℕ) (rest : List ℕ) → All Narrow (claim_fields c) × (c.expiry < 256 ^ wide_size)
      → drop at bytes ≡ claim_image c ++ rest → claim_in bytes at ≡ c
  claim_read c at rest held e =
      let numbers = numbers_image (claim_fields c) in
      let split : drop at bytes ≡ numbers ++ (bytes_of wide_size c.expiry ++ rest) = e ∙ append_assoc numbers (bytes_of wide_size c.expiry) rest in
      let expiry : number_in wide_size (at + 8 * number_size) bytes ≡ c.expiry =
      number_read wide_size c.expiry (at + 8 * number_size) bytes rest held.1
      (behind bytes at (8 * number_size) numbers (bytes_of wide_size c.expiry ++ rest) split (numbers_length (claim_fields c))) in
      rw expiry (ap (λ l. record {
        id = get_or l 0 0;
        parent = get_or l 1 0;
        grantor = get_or l 2 0;
        holder = get_or l 3 0;
        resource = get_or l 4 0;
        rights = get_or l 5 0;
        weight = get_or l 6 0;
        left = get_or l 7 0;
        expiry = c.expiry;
      }) (fields_read (claim_fields c) at (bytes_of wide_size c.expiry ++ rest) held.0 split))

-- ---- as many bytes as the record has

pub actor_long : (a : Actor) → length (actor_image a) ≡ actor_size
actor_long a = numbers_length (actor_fields a)

pub resource_long : (o : Resource) → length o.path ≡ path_limit → length (resource_image o) ≡ resource_size
resource_long o long =
    omega (arith, length-append (numbers_image (resource_fields o)) o.path, numbers_length (resource_fields o), long)

pub claim_long : (c : Claim) → length (claim_image c) ≡ claim_size
claim_long c =
    omega (arith, length-append (numbers_image (claim_fields c)) (bytes_of wide_size c.expiry), numbers_length (claim_fields c), bytes_of_length wide_size c.expiry)

-- ---- the bytes of what was read

module _ (bytes : List ℕ) (small : All (λ b. b < 256) bytes) where
  fields_written : (n at : ℕ) → at + n * number_size ≤ length bytes → numbers_image (fields bytes at n) ≡ take (n * number_size) (drop at bytes)
  fields_written n at room =
      ap numbers_image (sym (records_counted (λ k. number_in number_size k bytes) number_size n at))
      ∙ records_written (bytes_of number_size) number_size bytes (λ k. number_in number_size k bytes) (λ k inside. number_written bytes small number_size k inside) n at room

  pub actor_written : (at : ℕ) → at + actor_size ≤ length bytes → actor_image (actor_in bytes at) ≡ take actor_size (drop at bytes)
  actor_written at room = fields_written 3 at room

  pub resource_written : (at : ℕ) → at + resource_size ≤ length bytes → resource_image (resource_in bytes at) ≡ take resource_size (drop at bytes)
  resource_written at room =
      ap (λ l. l ++ take path_limit (drop (at + 4 * number_size) bytes)) (fields_written 4 at (omega arith)) ∙ joined bytes at (4 * number_size) path_limit

  pub claim_written : (at : ℕ) → at + claim_size ≤ length bytes → claim_image (claim_in bytes at) ≡ take claim_size (drop at bytes)
  claim_written at room =
      ap (λ l. l ++ bytes_of wide_size (number_in wide_size (at + 8 * number_size) bytes)) (fields_written 8 at (omega arith))
      ∙ ap (λ l. take (8 * number_size) (drop at bytes) ++ l) (number_written bytes small wide_size (at + 8 * number_size) (omega arith))
      ∙ joined bytes at (8 * number_size) wide_size
