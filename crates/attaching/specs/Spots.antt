-- Working: An attach and a fetch by the place of an entry, once they may be done. What they are in 02's words is `put_natural` and `print_natural` of
-- proofs/Placing.
use Rattle.std.specs.Prelude.{cond, Option, Some, None, [], ℕ, suc, min, eqb, ltb, get_or, set, Err, Ok}
use Rattle.refusals.specs.declared.Refusal.TheVariants.{NoEntry, BookFull}
use Rattle.fingerprints.specs.Fingerprints.{place_limit, zeros, entry, entries_of, entry_place, book_fits}
use Rattle.fingerprints.specs.declared.Entry.{Entry}
use Rattle.fingerprints.specs.declared.Book.{Book}
use Rattle.fingerprints.specs.declared.Attached.{Attached}
use Rattle.fingerprints.specs.declared.Fetched.{Fetched}

-- the place of a number's entry in a book that fits
abbrev pub entry_spot : Book → ℕ → Option ℕ
entry_spot b n = cond (book_fits b) (Some (entry_place n (entries_of b))) None

-- an entry put at a place, the count one more where that is behind all; none where there is no such place
unfoldable pub put_at : Book → ℕ → Entry → Attached
put_at b place e =
    cond (ltb place place_limit)
    (record { book = record { entries = set b.entries place e; count = cond (eqb place b.count) (suc b.count) b.count }; outcome = (Ok tt) })
    (record { book = b; outcome = Err BookFull })

-- the fingerprint of the entry at a place; none from the count on
unfoldable pub print_at : Book → ℕ → Fetched
print_at b place =
    cond (ltb place (min b.count place_limit))
    (record { fingerprint = (get_or b.entries place (entry 0 [])).fingerprint; outcome = (Ok tt) })
    (record { fingerprint = zeros; outcome = Err NoEntry })
