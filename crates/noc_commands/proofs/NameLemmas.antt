-- Texts that name verdicts, with a comma between.
use Rattle.std.proofs.Common.{◌≡◌, ◌≢◌, ◌∙◌, ℕ, suc, ◌<◌, Bool, false, true, List, [], ◌∷◌, ◌++◌, length, get_or, refl, ap, sym, arith, append_assoc, append-nil, flat_map}
use Rattle.std.specs.Prelude.{◌==◌, ◌||◌}
use Rattle.std.specs.List.{list_any}
use Rattle.std.proofs.lemmas.Bool.{eq-eqb, false≢true, ne_eqb, or_from, or_parts, or_right}
use Rattle.std.proofs.lemmas.Grind.{flat_map-append}
use Rattle.std.proofs.lemmas.List.Folds.{list_any-append}
use Rattle.noc_view.specs.Names.{verdict_name}
use Rattle.noc_view.specs.Verdict.{column}
use Rattle.noc_view.specs.declared.verdict.Verdict.{Verdict}
use Rattle.noc_view.specs.declared.verdict.Verdict.TheVariants.{Empty, Routed, Granted, Moved, NoFlit, NoIdleChannel, LostChannel, NoCredit, LostInput, LostSwitch}
use Rattle.noc_commands.specs.Verdicts.{Names, NamesNone, is_among, is_member, name_and_comma, names_text}
use Rattle.noc_commands.specs.declared.verdicts.VerdictSet.{VerdictSet}

-- ---- commas

or_false : (b : Bool) → (b || false) ≡ b
or_false true = refl
or_false false = refl

-- whether a text has a comma
abbrev has_comma : List ℕ → Bool
has_comma text = list_any (λ byte. byte == 44) text

-- no byte of a text is a comma
abbrev pub LacksComma : List ℕ → Type 0
LacksComma text = (i : ℕ) → i < length text → get_or text i 0 ≡ 44 → ⊥

lacks : (text : List ℕ) → LacksComma text → has_comma text ≡ false
lacks [] none = refl
lacks (byte ∷ text) none =
    or_from (byte == 44) (has_comma text) (ne_eqb byte 44 (λ e. none 0 (omega arith) e)) (lacks text (λ i l e. none (suc i) (omega (arith, l)) e))

name_lacks : (v : Verdict) → has_comma (verdict_name v) ≡ false
name_lacks Empty = refl
name_lacks Routed = refl
name_lacks Granted = refl
name_lacks Moved = refl
name_lacks NoFlit = refl
name_lacks NoIdleChannel = refl
name_lacks LostChannel = refl
name_lacks NoCredit = refl
name_lacks LostInput = refl
name_lacks LostSwitch = refl

-- a text without a comma is not one with a comma
uncut : (text before behind : List ℕ) → has_comma text ≡ false → text ≡ before ++ 44 ∷ behind → ⊥
uncut text before behind none e =
    let there : has_comma (before ++ 44 ∷ behind) ≡ true =
    list_any-append (λ byte. byte == 44) before (44 ∷ behind) ∙ or_right (has_comma before) (has_comma (44 ∷ behind)) refl in
    false≢true (sym none ∙ ap has_comma e ∙ there)

-- a text is cut at its first comma in one way
cut : (a b xs ys : List ℕ) → has_comma a ≡ false → has_comma b ≡ false → a ++ 44 ∷ xs ≡ b ++ 44 ∷ ys → (a ≡ b) × (xs ≡ ys)
cut [] [] xs ys p q e = (refl, cc)
cut [] (byte ∷ b) xs ys p q e =
    let first : byte ≡ 44 = cc in
    absurd (false≢true (sym (or_parts (byte == 44) (has_comma b) q).0 ∙ eq-eqb byte 44 first))
cut (byte ∷ a) [] xs ys p q e =
    let first : byte ≡ 44 = cc in
    absurd (false≢true (sym (or_parts (byte == 44) (has_comma a) p).0 ∙ eq-eqb byte 44 first))
cut (byte ∷ a) (other ∷ b) xs ys p q e =
    let first : byte ≡ other = cc in
    let behind : a ++ 44 ∷ xs ≡ b ++ 44 ∷ ys = cc in
    let rest = cut a b xs ys (or_parts (byte == 44) (has_comma a) p).1 (or_parts (other == 44) (has_comma b) q).1 behind in
    let same : a ≡ b = rest.0 in
    (cc, rest.1)

-- the first of several names
first_name : (v : Verdict) (names : List Verdict) (last : Verdict) → names_text (v ∷ names) last ≡ verdict_name v ++ 44 ∷ names_text names last
first_name v names last =
    append_assoc (verdict_name v ++ 44 ∷ []) (flat_map name_and_comma names) (verdict_name last) ∙ append_assoc (verdict_name v) (44 ∷ []) (names_text names last)

-- ---- names that are read one after the other

-- a text begins with names, each with a comma behind it, which are those of a set; and where the
-- text is made of names, so is the rest
pub record IsRead (text rest : List ℕ) (set : VerdictSet) : Type 0 where
  pub first : List Verdict
  pub front : text ≡ flat_map name_and_comma first ++ rest
  pub members : (v : Verdict) → is_member set v ≡ is_among first v
  pub left : (before : List Verdict) (last : Verdict) → text ≡ names_text before last → (behind : List Verdict) × (rest ≡ names_text behind last)

-- one member more is one name more
members_more : (first : List Verdict) (set more : VerdictSet) (v : Verdict) → ((w : Verdict) → is_member set w ≡ is_among first w)
    → ((w : Verdict) → is_member more w ≡ (is_member set w || column v == column w)) → (w : Verdict) → is_member more w ≡ is_among (first ++ v ∷ []) w
members_more first set more v members added w =
    added w ∙ ap (λ b. b || column v == column w) (members w) ∙ ap (λ b. is_among first w || b) (sym (or_false (column v == column w)))
    ∙ sym (list_any-append (λ one. column one == column w) first (v ∷ []))

module _ (text rest : List ℕ) (set : VerdictSet) (read : IsRead text rest set) where
  module _ (name more : List ℕ) (parted : rest ≡ name ++ 44 ∷ more) (single : LacksComma name) where
    -- the rest behind its first name is made of names, and that is one, where the rest is
    left_more : (behind : List Verdict) (last : Verdict) → rest ≡ names_text behind last → (v : Verdict) × (name ≡ verdict_name v) × ((names : List Verdict) × (more ≡ names_text names last))
    left_more [] last e = absurd (uncut (verdict_name last) name more (name_lacks last) (sym e ∙ parted))
    left_more (v ∷ names) last e =
        let both = cut name (verdict_name v) more (names_text names last) (lacks name single) (name_lacks v) (sym parted ∙ e ∙ first_name v names last) in
        (v, both.0, (names, both.1))

    -- a name is read
    pub next_read : (v : Verdict) (new : VerdictSet) → name ≡ verdict_name v → ((w : Verdict) → is_member new w ≡ (is_member set w || column v == column w)) → IsRead text more new
    next_read v new named added = record {
      first = read.first ++ v ∷ [];
      front = read.front ∙ ap (λ (t : List ℕ). flat_map name_and_comma read.first ++ t) (parted ∙ ap (λ (t : List ℕ). t ++ 44 ∷ more) named)
          ∙ sym (placed (flat_map name_and_comma read.first) (verdict_name v)) ∙ ap (λ (t : List ℕ). t ++ more) (sym (flat_map-append name_and_comma read.first (v ∷ [])));
      members = members_more read.first set new v read.members added;
      left = λ before last e. (let behind = read.left before last e in (left_more behind.0 last behind.1).2);
    }
      where
        placed : (front name : List ℕ) → (front ++ ((name ++ 44 ∷ []) ++ [])) ++ more ≡ front ++ (name ++ 44 ∷ more)
        placed front name = simp (append_assoc, append-nil)

    -- a name is that of no verdict
    pub none_read : ((v : Verdict) → name ≡ verdict_name v → ⊥) → NamesNone text
    none_read none before last e =
        let behind = read.left before last e in
        let first = left_more behind.0 last behind.1 in
        none first.0 first.1

  module _ (single : LacksComma rest) where
    -- the last name is read
    pub all_read : (v : Verdict) (new : VerdictSet) → rest ≡ verdict_name v → ((w : Verdict) → is_member new w ≡ (is_member set w || column v == column w)) → Names text new
    all_read v new named added =
        (read.first, v, read.front ∙ ap (λ (t : List ℕ). flat_map name_and_comma read.first ++ t) named, members_more read.first set new v read.members added)

    -- the last name is that of no verdict
    pub last_none_read : ((v : Verdict) → rest ≡ verdict_name v → ⊥) → NamesNone text
    last_none_read none before last e = (let behind = read.left before last e in by behind.0 behind.1)
      where
        by : (behind : List Verdict) → rest ≡ names_text behind last → ⊥
        by [] same = none last same
        by (v ∷ names) same = uncut rest (verdict_name v) (names_text names last) (lacks rest single) (same ∙ first_name v names last)
