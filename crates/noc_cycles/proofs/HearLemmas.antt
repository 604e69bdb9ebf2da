-- The packets that channels hear of, note by note.
use Rattle.std.proofs.Common.{◌≡◌, ◌≢◌, ℕ, ◌+◌, ◌*◌, ◌/◌, ◌%◌, ◌<◌, ◌≤◌, Bool, true, false, List, [], ◌∷◌, ◌++◌, Option, Some, None, get_or, get_or-set_other, get_or-set_same, length, set, take, take_all, ap, sym, ◌∙◌, refl, arith, inl, inr, subst}
use Rattle.std.specs.Prelude.{◌⊎◌, ◌&&◌, if◌then◌else◌, nat_eq, slice_get, unwrap_or}
use Rattle.std.proofs.lemmas.List.{take_more}
use Rattle.std.proofs.lemmas.Option.{slice_get-get_or, slice_get_within}
use Rattle.noc_cycles.proofs.Common.{cases_eq, length-set, packet_in, Block}
use Rattle.noc_cycles.specs.Told.{HasHeard, noted, with_note}
use Rattle.noc_cycles.specs.declared.notes.Note.{Note}
use Rattle.noc_cycles.proofs.NoteLemmas.{note-other, noted-push}

-- ---- one note more
note-then : (x : Note) (r i old : ℕ) (before : Option ℕ) → unwrap_or (with_note x r i before) old ≡ unwrap_or (with_note x r i None) (unwrap_or before old)
note-then x r i old before = at (nat_eq x.router r && nat_eq x.channel i)
  where
    at : (b : Bool) → unwrap_or (if b then Some x.packet else before) old ≡ unwrap_or (if b then Some x.packet else None) (unwrap_or before old)
    at true = refl
    at false = refl

heard-note : (notes : List Note) (n : ℕ) (x : Note) (r i old now : ℕ) → n < length notes → x ≡ get_or notes n x → now ≡ unwrap_or (noted (take n notes) r i) old
    → unwrap_or (with_note x r i None) now ≡ unwrap_or (noted (take (n + 1) notes) r i) old
heard-note notes n x r i old now inside is before =
    ap (unwrap_or (with_note x r i None)) before
    ∙ sym (note-then x r i old (noted (take n notes) r i))
    ∙ sym (ap (λ o. unwrap_or o old) (ap (λ (l : List Note). noted l r i) (take_more notes n x inside ∙ ap (λ (y : Note). take n notes ++ y ∷ []) (sym is)) ∙ noted-push (take n notes) x r i))

pub heard-more : (notes : List Note) (n : ℕ) (x : Note) (b : ℕ) (old now new : Block) → n < length notes → x ≡ get_or notes n x → HasHeard (take n notes) b old now → HasHeard (x ∷ []) b now new → HasHeard (take (n + 1) notes) b old new
heard-more notes n x b old now new inside is before here = record {
  packets = λ r i l. here.packets r i l ∙ heard-note notes n x (64 * b + r) i (packet_in old.packets r i) (packet_in now.packets r i) inside is (before.packets r i l);
  rest = here.rest ∙ ap (λ (y : Block). record y { packets = new.packets }) before.rest;
}

pub heard-all : (notes : List Note) (n b : ℕ) (old new : Block) → length notes ≤ n → HasHeard (take n notes) b old new → HasHeard notes b old new
heard-all notes n b old new all has = subst (λ (xs : List Note). HasHeard xs b old new) (take_all n notes all) has

pub same-block : (s t : Block) (o : Option Block) → o ≡ Some s → o ≡ Some t → s ≡ t
same-block s t o a b = let e : Some s ≡ Some t = sym a ∙ b in cc

-- ---- one note, in the blocks from one on
module _ (x : Note) (first : ℕ) (blocks : List Block) where
  -- no block that it is for
  pub heard-elsewhere : (b : ℕ) (old new : Block) → x.router / 64 ≢ first + b → slice_get blocks b ≡ Some old → slice_get blocks b ≡ Some new → HasHeard (x ∷ []) (first + b) old new
  heard-elsewhere b old new other was is = subst (HasHeard (x ∷ []) (first + b) old) (same-block old new _ was is) (record {
    packets = λ r i l. sym (ap (λ o. unwrap_or o (packet_in old.packets r i)) (note-other x (64 * (first + b) + r) i None (inl (λ e. other (omega (arith, e, l))))));
    rest = refl;
  })

  -- .. and the one
  module _ (k : ℕ) (here : Block) (after : List (List ℕ)) (at : x.router / 64 ≡ first + k) (inside : k < length blocks)
      (holds : (r i : ℕ) → r / 64 ≡ x.router / 64 → packet_in after (r % 64) i ≡ unwrap_or (with_note x r i None) (packet_in (get_or blocks k here).packets (r % 64) i)) where
    abbrev held : Block
    held = record (get_or blocks k here) { packets = after }

    heard-then : HasHeard (x ∷ []) (first + k) (get_or blocks k here) held
    heard-then = record {
      packets = λ r i l.
          let s = 64 * (first + k) + r in
          let place : s % 64 ≡ r = omega (arith, l) in
          subst (λ q. packet_in after q i ≡ unwrap_or (with_note x s i None) (packet_in (get_or blocks k here).packets q i)) place (holds s i (omega (arith, l, at)));
      rest = refl;
    }

    pub heard-here : (b : ℕ) (old new : Block) → slice_get blocks b ≡ Some old → slice_get (set blocks k held) b ≡ Some new → HasHeard (x ∷ []) (first + b) old new
    heard-here b old new was is = by (cases_eq b k)
      where
        long : length (set blocks k held) ≡ length blocks
        long = length-set blocks k held

        by : (b ≡ k) ⊎ (b ≢ k) → HasHeard (x ∷ []) (first + b) old new
        by (inl same) =
            let before : get_or blocks k here ≡ old = same-block _ old (slice_get blocks b) (ap (slice_get blocks) same ∙ slice_get-get_or blocks k here inside) was in
            let now : held ≡ new = same-block held new (slice_get (set blocks k held) b) (ap (slice_get (set blocks k held)) same ∙ slice_get-get_or (set blocks k held) k here (omega (arith, long, inside)) ∙ ap Some (get_or-set_same blocks k held here inside)) is in
            subst (λ m. HasHeard (x ∷ []) (first + m) old new) (sym same)
            (subst (λ (y : Block). HasHeard (x ∷ []) (first + k) y new) before (subst (HasHeard (x ∷ []) (first + k) (get_or blocks k here)) now heard-then))
        by (inr other) =
            let l = slice_get_within blocks b old was in
            heard-elsewhere b old new (λ e. other (omega (arith, e, at))) was
            (slice_get-get_or blocks b here l ∙ ap Some (sym (get_or-set_other blocks k b held here other)) ∙ sym (slice_get-get_or (set blocks k held) b here (omega (arith, long, l))) ∙ is)
