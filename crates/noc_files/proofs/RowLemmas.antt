-- Rows of a text, one after the other.
use Rattle.std.proofs.Common.{◌≡◌, ℕ, zero, suc, ◌+◌, ◌<◌, ◌≤◌, Bool, true, false, cond, List, [], ◌∷◌, ◌++◌, length, Option, Some, None, Bor, refl, sym, ◌∙◌, arith, ◌==◌, subst, add-one}
use Rattle.std.proofs.lemmas.Bool.{false≢true}
use Rattle.std.proofs.lemmas.Option.{none-some, same_Some}
use Rattle.csv.specs.Machine.{Read, after_end, ends_at_end, ends_with, field_after, fields_after, in_field, is_end, next_record, start_field, start_record, step}
use Rattle.csv.specs.Reading.{AreRecords, ReadRecord, Reached, default_config, records_from, source_of, reader_state}
use Rattle.csv.specs.declared.parser.State.{State}
use Rattle.csv.specs.declared.parser.State.TheVariants as st
use Rattle.csv.specs.declared.parser.Terminator.TheVariants as term
use Rattle.csv.specs.declared.parser.Action.{Action}
use Rattle.csv.specs.declared.parser.Action.TheVariants as act
use Rattle.csv.specs.declared.reader.Reader.{Reader}
use Rattle.csv.proofs.ReadFacts.{rows-end, rows-more}
use Rattle.noc_files.specs.Rows.{Fields, IsBetweenRows, rows_left}

-- ---- a record that ends leaves the machine between records

record Rests (p : State × Action) : Type 0 where
  at : is_end p.1 ≡ true → ends_at_end p.0 ≡ false

rests_if : (b : Bool) (x y : State × Action) → Rests x → Rests y → Rests (cond b x y)
rests_if true x y p q = p
rests_if false x y p q = q

rests_on : (s : State) (a : Action) → is_end a ≡ false → Rests (s, a)
rests_on s a e = record { at = λ t. absurd (false≢true (sym e ∙ t)) }

rests_end : (b : Bool) → Rests (cond b st.AfterCr st.StartRecord, act.EndRecord)
rests_end true = record { at = λ t. refl }
rests_end false = record { at = λ t. refl }

rests_in_field : (c : ℕ) → Rests (in_field default_config c)
rests_in_field c =
    rests_if (c == 44) (st.StartField, act.EndField) (cond (ends_with term.CRLF c) (after_end term.CRLF c, act.EndRecord) (st.InField, act.Copy))
    (rests_on st.StartField act.EndField refl)
    (rests_if (ends_with term.CRLF c) (after_end term.CRLF c, act.EndRecord) (st.InField, act.Copy) (rests_end (c == 13)) (rests_on st.InField act.Copy refl))

rests_start_field : (c : ℕ) → Rests (start_field default_config c)
rests_start_field c = rests_if (c == 34) (st.InQuoted, act.Skip) (in_field default_config c) (rests_on st.InQuoted act.Skip refl) (rests_in_field c)

rests_start_record : (c : ℕ) → Rests (start_record default_config c)
rests_start_record c = rests_if (ends_with term.CRLF c) (st.StartRecord, act.Skip) (start_field default_config c) (rests_on st.StartRecord act.Skip refl) (rests_start_field c)

rests_step : (s : State) (c : ℕ) → Rests (step default_config s c)
rests_step st.StartRecord c = rests_start_record c
rests_step st.StartField c = rests_start_field c
rests_step st.InField c = rests_in_field c
rests_step st.InQuoted c = rests_if (c == 34) (st.AfterQuote, act.Skip) (st.InQuoted, act.Copy) (rests_on st.AfterQuote act.Skip refl) (rests_on st.InQuoted act.Copy refl)
rests_step st.InEscape c = rests_on st.InQuoted act.Copy refl
rests_step st.AfterQuote c = rests_if (c == 34) (st.InQuoted, act.Copy) (in_field default_config c) (rests_on st.InQuoted act.Copy refl) (rests_in_field c)
rests_step st.InComment c = rests_if (c == 10) (st.StartRecord, act.Skip) (st.InComment, act.Skip) (rests_on st.StartRecord act.Skip refl) (rests_on st.InComment act.Skip refl)
rests_step st.AfterCr c = rests_if (c == 10) (st.StartRecord, act.Skip) (start_record default_config c) (rests_on st.StartRecord act.Skip refl) (rests_start_record c)

-- ---- a record takes a byte at least, and leaves the machine between records

took_none : (b : Bool) (x p : Read) → cond b (Some x) None ≡ Some p → (b ≡ true) × (x ≡ p)
took_none true x p e = (refl, same_Some x p e)
took_none false x p e = absurd (none-some p e)

pub took : (s : State) (fields : Fields) (field xs : List ℕ) (p : Read) → next_record default_config s fields field xs ≡ Some p → (ends_at_end p.1 ≡ false) × (length p.2 ≤ length xs)
unfolding next_record
took s fields field [] p e =
    let h = took_none (ends_at_end s) (fields ++ (field ∷ []), st.StartRecord, []) p e in
    rw (← h.1) (refl, omega arith)
took s fields field (c ∷ xs) p e = by (is_end (step default_config s c).1) refl (took (step default_config s c).0 (fields_after (step default_config s c).1 fields field) (field_after (step default_config s c).1 c field) xs p)
  where
    by : (b : Bool) → is_end (step default_config s c).1 ≡ b
        → (next_record default_config (step default_config s c).0 (fields_after (step default_config s c).1 fields field) (field_after (step default_config s c).1 c field) xs ≡ Some p → (ends_at_end p.1 ≡ false) × (length p.2 ≤ length xs))
        → (ends_at_end p.1 ≡ false) × (length p.2 ≤ length (c ∷ xs))
    by true end more =
        let h : (fields_after (step default_config s c).1 fields field, (step default_config s c).0, xs) ≡ p = same_Some _ _ (rw end at e) in
        rw (← h) ((rests_step s c).at end, omega arith)
    by false end more =
        let h = more (rw end at e) in
        (h.0, omega (arith, h.1))

pub took_some : (s : State) (xs : List ℕ) (p : Read) → ends_at_end s ≡ false → next_record default_config s [] [] xs ≡ Some p → (ends_at_end p.1 ≡ false) × (length p.2 < length xs)
unfolding next_record
took_some s [] p between e = absurd (none-some p (rw between at e))
took_some s (c ∷ xs) p between e = by (is_end (step default_config s c).1) refl
  where
    by : (b : Bool) → is_end (step default_config s c).1 ≡ b → (ends_at_end p.1 ≡ false) × (length p.2 < length (c ∷ xs))
    by true end =
        let h : (fields_after (step default_config s c).1 [] [], (step default_config s c).0, xs) ≡ p = same_Some _ _ (rw end at e) in
        rw (← h) ((rests_step s c).at end, omega arith)
    by false end =
        let h = took (step default_config s c).0 (fields_after (step default_config s c).1 [] []) (field_after (step default_config s c).1 c []) xs p (rw end at e) in
        (h.0, omega (arith, h.1))

-- ---- more turns than there are bytes find the same records

pub enough : (n m : ℕ) (s : State) (xs : List ℕ) → ends_at_end s ≡ false → length xs < n → length xs < m → records_from default_config n s xs ≡ records_from default_config m s xs
unfolding records_from
enough zero m s xs between a b = absurd (omega arith)
enough (suc n) zero s xs between a b = absurd (omega arith)
enough (suc n) (suc m) s xs between a b = by (next_record default_config s [] [] xs) refl (λ p. enough n m p.1 p.2)
  where
    by : (o : Option Read) → next_record default_config s [] [] xs ≡ o
        → ((p : Read) → ends_at_end p.1 ≡ false → length p.2 < n → length p.2 < m → records_from default_config n p.1 p.2 ≡ records_from default_config m p.1 p.2)
        → records_from default_config (suc n) s xs ≡ records_from default_config (suc m) s xs
    by None e more = rw e
    by (Some p) e more =
        let h = took_some s xs p between e in
        rw (e, more p h.0 (omega (arith, h.1)) (omega (arith, h.1)))

moved : (n : ℕ) (s s2 : State) (xs z : List ℕ) → s ≡ s2 → xs ≡ z → ends_at_end s ≡ false → length xs < n → records_from default_config (length z + 1) s2 z ≡ records_from default_config n s xs
moved n s s2 xs z e f between h = rw (← e, ← f) (enough (length xs + 1) n s xs between (omega arith) h)

-- ---- what a read leaves

-- the reader read one row more
pub left_row : (r r2 : Reader (Bor (List ℕ))) (f : Fields) → (old : IsBetweenRows r) → ReadRecord (λ s. Some s.now) r r2 true f
    → (ends_at_end (reader_state r2) ≡ false) × (z : List ℕ) × (source_of (λ s. Some s.now) r2 ≡ Some z) × (rows_left r ≡ f ∷ rows_left r2)
unfolding Reached records_from
left_row r r2 f old read =
    let m = rows-more (λ (s : Bor (List ℕ)). Some s.now) r r2 f default_config (reader_state r) old.bytes old.bytes [] old.config old.source (refl, refl) read in
    let (z, at_z, reached) = m in
    let (p, next, fields, rest) = reached in
    let h = took_some (reader_state r) old.bytes p old.between next in
    let more : rows_left r2 ≡ records_from default_config (length old.bytes) p.1 p.2 = rw at_z (moved (length old.bytes) p.1 (reader_state r2) p.2 z rest.0 rest.1 h.0 h.1) in
    let all : rows_left r ≡ p.0 ∷ records_from default_config (length old.bytes) p.1 p.2 = rw (old.source, add-one) (rw next) in
    (subst (λ v. ends_at_end v ≡ false) rest.0 h.0, z, at_z, all ∙ rw (← fields) (rw more))

pub no_row : (r r2 : Reader (Bor (List ℕ))) (f : Fields) → (old : IsBetweenRows r) → ReadRecord (λ s. Some s.now) r r2 false f → rows_left r ≡ []
unfolding records_from
no_row r r2 f old read =
    let none = rows-end (λ (s : Bor (List ℕ)). Some s.now) r r2 f default_config old.bytes old.config old.source read in
    rw (old.source, add-one) (rw none)

-- ---- the rows are all the records

pub are_all : (n : ℕ) (s : State) (xs : List ℕ) → ends_at_end s ≡ false → length xs < n → AreRecords default_config s xs (records_from default_config n s xs)
unfolding records_from Reached
are_all zero s xs between h = absurd (omega arith)
are_all (suc n) s xs between h = by (next_record default_config s [] [] xs) refl (λ p. are_all n p.1 p.2)
  where
    by : (o : Option Read) → next_record default_config s [] [] xs ≡ o → ((p : Read) → ends_at_end p.1 ≡ false → length p.2 < n → AreRecords default_config p.1 p.2 (records_from default_config n p.1 p.2)) → AreRecords default_config s xs (records_from default_config (suc n) s xs)
    by None e more = (s, xs, rw e (refl, refl), e)
    by (Some p) e more =
        let t = took_some s xs p between e in
        let (s2, ys, reached, none) = more p t.0 (omega (arith, t.1)) in
        (s2, ys, rw e (p, e, refl, reached), none)
