-- What a pass makes of each word it makes of each router.
use Rattle.std.proofs.Common.{◌≡◌, ℕ, ◌<◌, Bool, List, ap, ap₂, sym, ◌∙◌, bit_or, bit_xor}
use Rattle.noc_sets.specs.Column.{Column}
use Rattle.noc_sets.specs.Planes.{any_from, raised_by, wrong_from}
use Rattle.noc_sets.specs.Sets.{less}
use Rattle.noc_columns.specs.Channels.{outputs_by, returned_by}
use Rattle.noc_columns.specs.Planes.{list_of, planes_by}
use Rattle.noc_columns.specs.Steps.{TakesCredits}
use Rattle.noc_columns.specs.Words.{Numbering, set_alike, set_of, word}
use Rattle.noc_columns.specs.declared.channels.Outputs.{Outputs}
use Rattle.noc_columns.specs.declared.channels.Returned.{Returned}
use Rattle.noc_columns.specs.declared.planes.Planes.{Planes}
use Rattle.noc_columns.proofs.PlaneLemmas.{any_term, leaves, likes, planes-raised, raised_terms, value-any, value-leaves, value-likes, value-raised, value-wrong, wrong_term}
use Rattle.noc_columns.proofs.SetLemmas.{Term, leaf, none, other, without, sets-are, value}

-- ---- credits, of words and of sets
pub record IsCredited (deep : Bool) (places : List ℕ) (came : ℕ) (old new : Outputs ℕ) (what : Returned ℕ) : Type 0 where
  pub credit : list_of deep new.credit ≡ raised_by (list_of deep old.credit) came
  pub home : what.home ≡ less old.draining (wrong_from 0 (raised_by (list_of deep old.credit) came) places)
  pub draining : new.draining ≡ bit_xor old.draining (less old.draining (wrong_from 0 (raised_by (list_of deep old.credit) came) places))
  pub some : what.some ≡ any_from came (list_of deep old.credit)

pub takes-credits : (deep : Bool) (places : List ℕ) (came : ℕ) (old new : Outputs ℕ) (what : Returned ℕ) → IsCredited deep places came old new what → TakesCredits deep places came old new what
takes-credits deep places came old new what is = record {
  column = λ c. along c is.credit is.draining is.home;
  home = λ c. is.home;
  some = is.some;
}
  where
    along : (c : Column) {credit : List ℕ} {draining home : ℕ} → list_of deep new.credit ≡ credit → new.draining ≡ draining → what.home ≡ home
        → record c { draining = new.draining; credit = list_of deep new.credit; idle = bit_or c.idle what.home }
        ≡ record c { draining = draining; credit = credit; idle = bit_or c.idle home }
    along c p q h = λ i. record c { draining = q i; credit = p i; idle = bit_or c.idle (h i) }

module _ (deep : Bool) (places : Planes ℕ) (came : List ℕ) (old new : Outputs (List ℕ)) (what : Returned (List ℕ)) where
  home-term : Term
  home-term = without (leaf old.draining) (wrong_term none (raised_terms (leaves deep old.credit) (leaf came)) (likes deep places))

  value-home : (of : List ℕ → ℕ) (one : ℕ → ℕ)
      → value of one home-term
      ≡ less (of old.draining) (wrong_from 0 (raised_by (list_of deep (planes_by of old.credit)) (of came)) (list_of deep (planes_by one places)))
  unfolding home-term
  value-home of one =
      ap (less (of old.draining))
      (value-wrong of one none (raised_terms (leaves deep old.credit) (leaf came)) (likes deep places)
      ∙ ap₂ (wrong_from 0) (value-raised of one (leaves deep old.credit) (leaf came) ∙ ap (λ ps. raised_by ps (of came)) (value-leaves of one deep old.credit)) (value-likes of one deep places))

  pub credited : (n : Numbering) (r : ℕ)
      → ((c : ℕ) → c < n.size → IsCredited deep (list_of deep places) (word (n.index c) came) (outputs_by (word (n.index c)) old) (outputs_by (word (n.index c)) new) (returned_by (word (n.index c)) what))
      → IsCredited deep (list_of deep (planes_by (set_alike n r) places)) (set_of n r came) (outputs_by (set_of n r) old) (outputs_by (set_of n r) new) (returned_by (set_of n r) what)
  credited n r is = record {
    credit = planes-raised n r deep old.credit new.credit (leaf came) (λ c l. (is c l).credit);
    home = sets-are n r home-term what.home (λ c l. (is c l).home ∙ sym (value-home (word (n.index c)) (λ w. w))) ∙ value-home (set_of n r) (set_alike n r);
    draining =
        sets-are n r (other (leaf old.draining) home-term) new.draining (λ c l. (is c l).draining ∙ sym (ap (bit_xor (word (n.index c) old.draining)) (value-home (word (n.index c)) (λ w. w))))
        ∙ ap (bit_xor (set_of n r old.draining)) (value-home (set_of n r) (set_alike n r));
    some =
        sets-are n r (any_term (leaf came) (leaves deep old.credit)) what.some
        (λ c l. (is c l).some ∙ sym (value-any (word (n.index c)) (λ w. w) (leaf came) (leaves deep old.credit) ∙ ap (any_from (word (n.index c) came)) (value-leaves (word (n.index c)) (λ w. w) deep old.credit)))
        ∙ value-any (set_of n r) (set_alike n r) (leaf came) (leaves deep old.credit) ∙ ap (any_from (set_of n r came)) (value-leaves (set_of n r) (set_alike n r) deep old.credit);
  }

pub along-credited : {deep : Bool} {places : List ℕ} {came : ℕ} {old : Outputs ℕ} {draining draining2 : ℕ} {credit credit2 : Planes ℕ} {some some2 home home2 : ℕ}
    → draining2 ≡ draining → credit2 ≡ credit → some2 ≡ some → home2 ≡ home
    → IsCredited deep places came old (record { draining = draining; credit = credit }) (record { some = some; home = home })
    → IsCredited deep places came old (record { draining = draining2; credit = credit2 }) (record { some = some2; home = home2 })
along-credited d p s h is = record { credit = ap (list_of _) p ∙ is.credit; home = h ∙ is.home; draining = d ∙ is.draining; some = s ∙ is.some }
