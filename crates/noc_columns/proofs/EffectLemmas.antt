-- What takes effect on each word takes effect on each router.
use Rattle.std.proofs.Common.{◌≡◌, ℕ, ◌<◌, Bool, List, ap, sym, ◌∙◌}
use Rattle.noc_sets.specs.Column.{Column}
use Rattle.noc_sets.specs.Passes.{settled_lane}
use Rattle.noc_columns.specs.Channels.{AreInputs, decided_by, inputs_by, standing_by, verdicts_by}
use Rattle.noc_columns.specs.Steps.{Settles, effects_of, with_inputs}
use Rattle.noc_columns.specs.Words.{Numbering, set_of, word}
use Rattle.noc_columns.specs.declared.channels.Decided.{Decided}
use Rattle.noc_columns.specs.declared.channels.Inputs.{Inputs}
use Rattle.noc_columns.specs.declared.channels.Standing.{Standing}
use Rattle.noc_columns.specs.declared.channels.Verdicts.{Verdicts}
use Rattle.noc_columns.proofs.FlitLemmas.{blank}
use Rattle.noc_columns.proofs.PlaneLemmas.{planes-lowered}
use Rattle.noc_columns.proofs.SetLemmas.{leaf, both, either, without, sets-are}

pub along-settles : {deep : Bool} {s : Standing ℕ} {d : Decided ℕ} {granted : ℕ} {i j j2 : Inputs ℕ} {v w w2 : Verdicts ℕ} → j2 ≡ j → w2 ≡ w → Settles deep s d granted i j v w → Settles deep s d granted i j2 v w2
along-settles {deep} {s} {d} {granted} {i} {j} {j2} {v} {w} {w2} p q is = coe 0 1 (x. Settles deep s d granted i (sym p x) v (sym q x)) is

pub settles-put : {deep : Bool} {s s2 : Standing ℕ} {d d2 : Decided ℕ} {granted : ℕ} {i i2 j j2 : Inputs ℕ} {v v2 w w2 : Verdicts ℕ}
    → s2 ≡ s → d2 ≡ d → i2 ≡ i → v2 ≡ v → AreInputs deep j2 j → w2 ≡ w → Settles deep s2 d2 granted i2 j v2 w → Settles deep s d granted i j2 v w2
settles-put {deep} {s} {s2} {d} {d2} {granted} {i} {i2} {j} {j2} {v} {v2} {w} {w2} a b e f same q is =
    let here = coe 0 1 (x. Settles deep (a x) (b x) granted (e x) j (f x) (sym q x)) is in
    let ahead : j2.ahead ≡ j.ahead = ap (λ x. x.ahead) same.rest in
    record {
      column = λ links local supplied c.
          (λ x. record c {
            waiting = (same.rest x).waiting;
            active = (same.rest x).active;
            supplied = supplied;
            ahead = (same.rest x).ahead;
            len = same.len x;
          })
          ∙ here.column links local supplied c
          ∙ ap
          (λ x. record (settled_lane x links local (effects_of s granted w2.moved) (with_inputs deep i supplied c)) {
            supplied = supplied;
            draining = c.draining;
            idle = c.idle;
            credit = c.credit;
          })
          (sym ahead);
      ended = ap (λ x. x.ended) same.rest ∙ here.ended;
      ahead = ahead ∙ here.ahead;
      verdicts = here.verdicts;
    }

module _ (deep : Bool) (s : Standing (List ℕ)) (d : Decided (List ℕ)) (granted : List ℕ) (i j : Inputs (List ℕ)) (v w : Verdicts (List ℕ)) where
  pub settled : (n : Numbering) (r : ℕ)
      → ((c : ℕ) → c < n.size → Settles deep (standing_by (word (n.index c)) s) (decided_by (word (n.index c)) d) (word (n.index c) granted) (inputs_by (word (n.index c)) i) (inputs_by (word (n.index c)) j) (verdicts_by (word (n.index c)) v) (verdicts_by (word (n.index c)) w))
      → Settles deep (standing_by (set_of n r) s) (decided_by (set_of n r) d) (set_of n r granted) (inputs_by (set_of n r) i) (inputs_by (set_of n r) j) (verdicts_by (set_of n r) v) (verdicts_by (set_of n r) w)
  settled n r is =
      let released = both (leaf w.moved) (leaf s.last) in
      let waiting = sets-are n r (either (without (leaf i.waiting) (leaf granted)) (leaf s.heads)) j.waiting (λ k l. ap (λ (c : Column). c.waiting) ((is k l).column 0 0 0 blank)) in
      let active = sets-are n r (without (either (leaf i.active) (leaf granted)) released) j.active (λ k l. ap (λ (c : Column). c.active) ((is k l).column 0 0 0 blank)) in
      let len = planes-lowered n r deep i.len j.len (leaf w.moved) (λ k l. ap (λ (c : Column). c.len) ((is k l).column 0 0 0 blank)) in
      let told = λ (k : ℕ) (l : k < n.size). (is k l).verdicts in
      let told_active = sets-are n r (leaf i.active) w.active (λ k l. ap (λ x. x.active) (told k l)) in
      let told_credit = sets-are n r (leaf v.no_credit) w.no_credit (λ k l. ap (λ x. x.no_credit) (told k l)) in
      let told_moved = sets-are n r (both (leaf d.picked) (leaf d.sends)) w.moved (λ k l. ap (λ x. x.moved) (told k l)) in
      record {
        column = λ links local supplied c x. record c {
          waiting = waiting x;
          active = active x;
          supplied = supplied;
          ahead = set_of n r j.ahead;
          len = len x;
        };
        ended = sets-are n r (without (leaf i.ended) released) j.ended (λ k l. (is k l).ended);
        ahead = sets-are n r (either (without (leaf i.ahead) (leaf d.sends)) (both (leaf d.past) (leaf d.sends))) j.ahead (λ k l. (is k l).ahead);
        verdicts = λ x. record { active = told_active x; no_credit = told_credit x; moved = told_moved x };
      }
