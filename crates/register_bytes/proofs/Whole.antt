-- A whole register is read from its bytes, and bytes of a register's length are those of the register that they hold. Assumes nothing.
use Rattle.std.proofs.Common.{◌≡◌, refl, sym, ap, ◌∙◌, List, [], ◌∷◌, ◌++◌, append-nil, ℕ, ◌+◌, ◌*◌, ◌^◌, ◌≤◌, ◌<◌, arith, eq-eqb, length, take, drop, length-append, length-drop, take-append-drop, take_all, drop-drop}
use Rattle.lists.specs.Lists.{All}
use Rattle.lists.specs.Each.{all_imp, all_both}
use Rattle.register.specs.Limits.{actor_limit, resource_limit, claim_limit, path_limit}
use Rattle.register.specs.Register.{Shaped}
use Rattle.register.specs.declared.Register.{Register}
use Rattle.register_bytes.specs.Bytes.{number_size, wide_size, actor_size, resource_size, claim_size, actor_count_at, resources_at, resource_count_at, claims_at, claim_count_at, version_at, register_size, number_in, actor_in, resource_in, claim_in, records_in, register_at, register_in, bytes_of, bytes_of_all, actor_fields, resource_fields, claim_fields, actor_image, resource_image, claim_image, image_of, Wide}
use Rattle.register_bytes.specs.Laws.{register_in_lem}
use Rattle.register_bytes.proofs.Reading.{bytes_of_length, behind, number_read, all_length, records_read, number_written, records_written}
use Rattle.register_bytes.proofs.Imaging.{actor_long, resource_long, claim_long, actor_read, resource_read, claim_read, actor_written, resource_written, claim_written}

-- as many records as there are places
counted_read : {A : Type 0} (read : ℕ → A) (size at n : ℕ) (l : List A) → length l ≡ n → records_in read size at (length l) ≡ l → records_in read size at n ≡ l
counted_read read size at n l long e = ap (records_in read size at) (sym long) ∙ e

all_tt : {A : Type 0} (Q : A → Type 0) → ((a : A) → Q a) → (l : List A) → All Q l
all_tt Q f [] = tt
all_tt Q f (a ∷ l) = (f a, all_tt Q f l)

module _ (r : Register) (shaped : Shaped r) where
  abbrev actors : List ℕ
  actors = bytes_of_all actor_image r.actors.list

  abbrev resources : List ℕ
  resources = bytes_of_all resource_image r.resources.list

  abbrev claims : List ℕ
  claims = bytes_of_all claim_image r.claims.list

  abbrev wide : ℕ → List ℕ
  wide n = bytes_of wide_size n

  resources_each : All (λ o. length (resource_image o) ≡ resource_size) r.resources.list
  resources_each = all_imp (λ o. length o.path ≡ path_limit) (λ o. length (resource_image o) ≡ resource_size) resource_long r.resources.list shaped.paths

  actors_each : All (λ a. length (actor_image a) ≡ actor_size) r.actors.list
  actors_each = all_tt (λ a. length (actor_image a) ≡ actor_size) actor_long r.actors.list

  claims_each : All (λ c. length (claim_image c) ≡ claim_size) r.claims.list
  claims_each = all_tt (λ c. length (claim_image c) ≡ claim_size) claim_long r.claims.list

  actors_long : length actors ≡ actor_limit * actor_size
  actors_long = all_length actor_image actor_size r.actors.list actors_each ∙ ap (λ n. n * actor_size) shaped.actors

  resources_long : length resources ≡ resource_limit * resource_size
  resources_long = all_length resource_image resource_size r.resources.list resources_each ∙ ap (λ n. n * resource_size) shaped.resources

  claims_long : length claims ≡ claim_limit * claim_size
  claims_long = all_length claim_image claim_size r.claims.list claims_each ∙ ap (λ n. n * claim_size) shaped.claims

  -- what stands from each place on
  abbrev from_version : List ℕ
  from_version = wide r.version

  abbrev from_claim_count : List ℕ
  from_claim_count = wide r.claims.count ++ from_version

  abbrev from_claims : List ℕ
  from_claims = claims ++ from_claim_count

  abbrev from_resource_count : List ℕ
  from_resource_count = wide r.resources.count ++ from_claims

  abbrev from_resources : List ℕ
  from_resources = resources ++ from_resource_count

  abbrev from_actor_count : List ℕ
  from_actor_count = wide r.actors.count ++ from_resources

  at_actors : drop 0 (image_of r) ≡ actors ++ from_actor_count
  unfolding image_of
  at_actors = refl

  at_actor_count : drop actor_count_at (image_of r) ≡ from_actor_count
  at_actor_count = behind (image_of r) 0 (actor_limit * actor_size) actors from_actor_count at_actors actors_long

  at_resources : drop resources_at (image_of r) ≡ from_resources
  at_resources = behind (image_of r) actor_count_at wide_size (wide r.actors.count) from_resources at_actor_count (bytes_of_length wide_size r.actors.count)

  at_resource_count : drop resource_count_at (image_of r) ≡ from_resource_count
  at_resource_count = behind (image_of r) resources_at (resource_limit * resource_size) resources from_resource_count at_resources resources_long

  at_claims : drop claims_at (image_of r) ≡ from_claims
  at_claims = behind (image_of r) resource_count_at wide_size (wide r.resources.count) from_claims at_resource_count (bytes_of_length wide_size r.resources.count)

  at_claim_count : drop claim_count_at (image_of r) ≡ from_claim_count
  at_claim_count = behind (image_of r) claims_at (claim_limit * claim_size) claims from_claim_count at_claims claims_long

  at_version : drop version_at (image_of r) ≡ from_version
  at_version = behind (image_of r) claim_count_at wide_size (wide r.claims.count) from_version at_claim_count (bytes_of_length wide_size r.claims.count)

  pub image_length : length (image_of r) ≡ register_size
  unfolding image_of
  image_length = omega (
    arith,
    ap length at_actors,
    length-append actors from_actor_count,
    length-append (wide r.actors.count) from_resources,
    length-append resources from_resource_count,
    length-append (wide r.resources.count) from_claims,
    length-append claims from_claim_count,
    length-append (wide r.claims.count) from_version,
    actors_long,
    resources_long,
    claims_long,
    bytes_of_length wide_size r.actors.count,
    bytes_of_length wide_size r.resources.count,
    bytes_of_length wide_size r.claims.count,
    bytes_of_length wide_size r.version,
  )

  module _ (wide_enough : Wide r) where
    actors_read : records_in (actor_in (image_of r)) actor_size 0 actor_limit ≡ r.actors.list
    actors_read =
        counted_read (actor_in (image_of r)) actor_size 0 actor_limit r.actors.list shaped.actors
        (records_read actor_image actor_size (image_of r) (actor_in (image_of r)) (λ a. All (λ n. n < 256 ^ number_size) (actor_fields a)) (actor_read (image_of r))
        r.actors.list 0 from_actor_count actors_each wide_enough.actors at_actors)

    resources_read : records_in (resource_in (image_of r)) resource_size resources_at resource_limit ≡ r.resources.list
    resources_read =
        let held : All (λ o. All (λ n. n < 256 ^ number_size) (resource_fields o) × (length o.path ≡ path_limit)) r.resources.list =
        all_both (λ o. All (λ n. n < 256 ^ number_size) (resource_fields o)) (λ o. length o.path ≡ path_limit)
        (λ o. All (λ n. n < 256 ^ number_size) (resource_fields o) × (length o.path ≡ path_limit)) (λ o x y. (x, y)) r.resources.list wide_enough.resources shaped.paths in
        counted_read (resource_in (image_of r)) resource_size resources_at resource_limit r.resources.list shaped.resources
        (records_read resource_image resource_size (image_of r) (resource_in (image_of r)) (λ o. All (λ n. n < 256 ^ number_size) (resource_fields o) × (length o.path ≡ path_limit)) (resource_read (image_of r))
        r.resources.list resources_at from_resource_count resources_each held at_resources)

    claims_read : records_in (claim_in (image_of r)) claim_size claims_at claim_limit ≡ r.claims.list
    claims_read =
        counted_read (claim_in (image_of r)) claim_size claims_at claim_limit r.claims.list shaped.claims
        (records_read claim_image claim_size (image_of r) (claim_in (image_of r)) (λ c. All (λ n. n < 256 ^ number_size) (claim_fields c) × (c.expiry < 256 ^ wide_size)) (claim_read (image_of r))
        r.claims.list claims_at from_claim_count claims_each wide_enough.claims at_claims)

    wide_read : (at n : ℕ) (rest : List ℕ) → n < 256 ^ wide_size → drop at (image_of r) ≡ wide n ++ rest → number_in wide_size at (image_of r) ≡ n
    wide_read at n rest small e = number_read wide_size n at (image_of r) rest small e

    pub image_read : register_in (image_of r) ≡ r
    unfolding register_in
    image_read = rw (
      eq-eqb (length (image_of r)) register_size image_length,
      actors_read,
      resources_read,
      claims_read,
      wide_read actor_count_at r.actors.count from_resources wide_enough.actor_count at_actor_count,
      wide_read resource_count_at r.resources.count from_claims wide_enough.resource_count at_resource_count,
      wide_read claim_count_at r.claims.count from_version wide_enough.claim_count at_claim_count,
      wide_read version_at r.version [] wide_enough.version (at_version ∙ sym (append-nil from_version)),
    )

module _ (bytes : List ℕ) (long : length bytes ≡ register_size) (small : All (λ b. b < 256) bytes) where
  abbrev part : ℕ → ℕ → List ℕ
  part at n = take n (drop at bytes)

  wide_written : (at : ℕ) → at + wide_size ≤ register_size → bytes_of wide_size (number_in wide_size at bytes) ≡ part at wide_size
  wide_written at room = number_written bytes small wide_size at (omega (arith, long))

  -- a part, and all that stands behind it
  before : (at n : ℕ) (here rest : List ℕ) → here ≡ part at n → rest ≡ drop (at + n) bytes → here ++ rest ≡ drop at bytes
  before at n here rest e f = rw (e, f, ← drop-drop n at bytes) (take-append-drop n (drop at bytes))

  last_written : bytes_of wide_size (number_in wide_size version_at bytes) ≡ drop version_at bytes
  last_written = wide_written version_at (omega arith) ∙ take_all wide_size (drop version_at bytes) (omega (arith, length-drop version_at bytes, long))

  at_written : image_of (register_at bytes) ≡ drop 0 bytes
  unfolding image_of
  at_written =
      before 0 (actor_limit * actor_size) _ _ (records_written actor_image actor_size bytes (actor_in bytes) (actor_written bytes small) actor_limit 0 (omega (arith, long)))
      (before actor_count_at wide_size _ _ (wide_written actor_count_at (omega arith))
      (before resources_at (resource_limit * resource_size) _ _
      (records_written resource_image resource_size bytes (resource_in bytes) (resource_written bytes small) resource_limit resources_at (omega (arith, long)))
      (before resource_count_at wide_size _ _ (wide_written resource_count_at (omega arith))
      (before claims_at (claim_limit * claim_size) _ _
      (records_written claim_image claim_size bytes (claim_in bytes) (claim_written bytes small) claim_limit claims_at (omega (arith, long)))
      (before claim_count_at wide_size _ _ (wide_written claim_count_at (omega arith)) last_written)))))

  pub read_image : image_of (register_in bytes) ≡ bytes
  read_image = ap image_of (register_in_lem bytes long) ∙ at_written
