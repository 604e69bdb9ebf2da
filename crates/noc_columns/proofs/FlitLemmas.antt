-- Flits that land in each word land in each router.
use Rattle.std.proofs.Common.{◌≡◌, ℕ, ◌<◌, Bool, List, [], ap, ap₂, sym, ◌∙◌, bit_and, bit_or}
use Rattle.noc_sets.specs.Column.{Column}
use Rattle.noc_sets.specs.Planes.{any_from, more_than_one}
use Rattle.noc_sets.specs.Sets.{less}
use Rattle.noc_columns.specs.Channels.{AreInputs, inputs_by, links_by, standing_by}
use Rattle.noc_columns.specs.Planes.{list_of, planes_by}
use Rattle.noc_columns.specs.Steps.{Lands}
use Rattle.noc_columns.specs.Words.{Numbering, set_alike, set_of, word}
use Rattle.noc_columns.specs.declared.channels.Inputs.{Inputs}
use Rattle.noc_columns.specs.declared.channels.Links.{Links}
use Rattle.noc_columns.specs.declared.channels.Standing.{Standing}
use Rattle.noc_columns.proofs.PlaneLemmas.{any_term, leaves, more_term, planes-raised, value-any, value-leaves, value-more}
use Rattle.noc_columns.proofs.SetLemmas.{Term, leaf, none, both, either, without, sets-are, value}

-- any router
pub blank : Column
blank = record {
  waiting = 0;
  active = 0;
  len = [];
  supplied = 0;
  ahead = 0;
  wanted = 0;
  idle = 0;
  draining = 0;
  credit = [];
  injecting = 0;
}

pub along-lands : {deep : Bool} {links : Links ℕ} {i j j2 : Inputs ℕ} {s t t2 : Standing ℕ} {n n2 : ℕ} → j2 ≡ j → t2 ≡ t → n2 ≡ n → Lands deep links i j s t n → Lands deep links i j2 s t2 n2
along-lands {deep} {links} {i} {j} {j2} {s} {t} {t2} {n} {n2} p q e is = coe 0 1 (x. Lands deep links i (sym p x) s (sym q x) (sym e x)) is

pub lands-put : {deep : Bool} {links links2 : Links ℕ} {i i2 j j2 : Inputs ℕ} {s s2 t t2 : Standing ℕ} {n n2 : ℕ}
    → links2 ≡ links → i2 ≡ i → s2 ≡ s → AreInputs deep j2 j → t2 ≡ t → n2 ≡ n → Lands deep links2 i2 j s2 t n → Lands deep links i j2 s t2 n2
lands-put {deep} {links} {links2} {i} {i2} {j} {j2} {s} {s2} {t} {t2} {n} {n2} a b d same q e is =
    let here = coe 0 1 (x. Lands deep (a x) (b x) j (d x) (sym q x) (sym e x)) is in
    record {
      len = same.len ∙ here.len;
      ended = same.rest ∙ (λ x. record (here.ended x) { len = j2.len });
      supplied = here.supplied;
      heads = here.heads;
      ready = here.ready;
      last = here.last ∙ sym (ap₂ less (ap (λ x. x.ended) same.rest) (ap more_than_one same.len));
      no_credit = here.no_credit;
    }

module _ (deep : Bool) (links : Links (List ℕ)) (i j : Inputs (List ℕ)) (s t : Standing (List ℕ)) (no_credit : List ℕ) where
  filled : Term
  filled = either (any_term none (leaves deep i.len)) (leaf links.flits)

  value-filled : (of : List ℕ → ℕ) (one : ℕ → ℕ) → value of one filled ≡ bit_or (any_from 0 (list_of deep (planes_by of i.len))) (of links.flits)
  unfolding filled
  value-filled of one = ap (λ x. bit_or x (of links.flits)) (value-any of one none (leaves deep i.len) ∙ ap (any_from 0) (value-leaves of one deep i.len))

  pub landed : (n : Numbering) (r : ℕ)
      → ((c : ℕ) → c < n.size → Lands deep (links_by (word (n.index c)) links) (inputs_by (word (n.index c)) i) (inputs_by (word (n.index c)) j) (standing_by (word (n.index c)) s) (standing_by (word (n.index c)) t) (word (n.index c) no_credit))
      → Lands deep (links_by (set_of n r) links) (inputs_by (set_of n r) i) (inputs_by (set_of n r) j) (standing_by (set_of n r) s) (standing_by (set_of n r) t) (set_of n r no_credit)
  landed n r is = record {
    len = planes-raised n r deep i.len j.len (leaf links.flits) (λ c l. (is c l).len);
    ended =
        let waiting = sets-are n r (leaf i.waiting) j.waiting (λ c l. ap (λ x. x.waiting) (is c l).ended) in
        let active = sets-are n r (leaf i.active) j.active (λ c l. ap (λ x. x.active) (is c l).ended) in
        let ended = sets-are n r (either (leaf i.ended) (leaf links.tails)) j.ended (λ c l. ap (λ x. x.ended) (is c l).ended) in
        let ahead = sets-are n r (leaf i.ahead) j.ahead (λ c l. ap (λ x. x.ahead) (is c l).ended) in
        λ x. record { waiting = waiting x; active = active x; ended = ended x; ahead = ahead x; len = planes_by (set_of n r) j.len };
    supplied = sets-are n r (leaf s.supplied) t.supplied (λ c l. (is c l).supplied);
    heads = λ c.
        sets-are n r (without filled (either (leaf i.waiting) (leaf i.active))) t.heads
        (λ k l. (is k l).heads blank ∙ sym (ap (λ x. less x (bit_or (word (n.index k) i.waiting) (word (n.index k) i.active))) (value-filled (word (n.index k)) (λ w. w))))
        ∙ ap (λ x. less x (bit_or (set_of n r i.waiting) (set_of n r i.active))) (value-filled (set_of n r) (set_alike n r));
    ready = λ c.
        sets-are n r (both (both (leaf i.active) filled) (leaf s.supplied)) t.ready
        (λ k l. (is k l).ready blank ∙ sym (ap (λ x. bit_and (bit_and (word (n.index k) i.active) x) (word (n.index k) s.supplied)) (value-filled (word (n.index k)) (λ w. w))))
        ∙ ap (λ x. bit_and (bit_and (set_of n r i.active) x) (set_of n r s.supplied)) (value-filled (set_of n r) (set_alike n r));
    last =
        sets-are n r (without (leaf j.ended) (more_term (leaves deep j.len))) t.last
        (λ k l. (is k l).last ∙ sym (ap (less (word (n.index k) j.ended)) (value-more (word (n.index k)) (λ w. w) (leaves deep j.len) ∙ ap more_than_one (value-leaves (word (n.index k)) (λ w. w) deep j.len))))
        ∙ ap (less (set_of n r j.ended)) (value-more (set_of n r) (set_alike n r) (leaves deep j.len) ∙ ap more_than_one (value-leaves (set_of n r) (set_alike n r) deep j.len));
    no_credit = λ c.
        sets-are n r (without (both (leaf i.active) filled) (both (both (leaf i.active) filled) (leaf s.supplied))) no_credit
        (λ k l. (is k l).no_credit blank ∙ sym (ap (λ x. less (bit_and (word (n.index k) i.active) x) (bit_and (bit_and (word (n.index k) i.active) x) (word (n.index k) s.supplied))) (value-filled (word (n.index k)) (λ w. w))))
        ∙ ap (λ x. less (bit_and (set_of n r i.active) x) (bit_and (bit_and (set_of n r i.active) x) (set_of n r s.supplied))) (value-filled (set_of n r) (set_alike n r));
  }
