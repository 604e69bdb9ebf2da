use Rattle.std.proofs.Common.{◌≡◌, ◌⊎◌, ℕ, ◌+◌, ◌*◌, ◌<◌, ◌≤◌, ◌∙◌, ap, arith, sym, subst, inl, inr, bit_or, slice_index}
use Rattle.std.specs.Prelude.{◌&&◌}
use Rattle.std.proofs.lemmas.Bool.{cases_eq}
use Rattle.noc_packet.specs.Set.{has_bit}
use Rattle.noc_sets.specs.Sets.{less}
use Rattle.noc_sets.specs.Unions.{some_below, union_from}
use Rattle.noc_columns.specs.Picks.{port_at}
use Rattle.noc_columns.specs.Words.{word}
use Rattle.noc_columns.proofs.PickLemmas.{apart, past-first, picked-first, some-first, union-next}
use Rattle.noc_columns.proofs.picks.pick_side.Invariants.{turn_at}
use Rattle.noc_columns.proofs.picks.pick_side.Goals as goal

pub loop-v-preserved : goal.loop-v-preserved
loop-v-preserved c =
    let ports = c.args.ports.now in
    let ready = c.args.ready.now in
    let ahead = c.args.ahead.now in
    let v = c.loop-v.v in
    let inv = c.loop-v.invariant in
    let here = c.pick_next.ensures in
    let wrote = c.write_side.ensures in
    let old = c.loop-v.turn.first in
    let new = c.pick_next.new in
    let past = c.write_side.new.words in
    let turn = λ (j : ℕ). turn_at ports old ready ahead j in
    let index = λ (j k : ℕ). ports.first + k * ports.width + j in
    let out = λ (j k : ℕ) (l : j < ports.width) (m : k < v). let far = apart k v ports.width j m l in here.others (index j k) (inl (omega (arith, far))) in
    let out_past = λ (j k : ℕ) (l : j < ports.width) (m : k < v). let far = apart k v ports.width j m l in wrote.others (index j k) (inl (omega (arith, far))) in
    record {
      first = subst (λ f. (j r : ℕ) → j < ports.width → has_bit (slice_index f j) r ≡ some_below ports.vcs (λ k. has_bit (word (index j k) ready) r && has_bit (word (index j k) ahead) r)) (sym here.first) inv.first;
      before = subst (λ f. (j : ℕ) → j < ports.width → slice_index new.turn.before j ≡ union_from 0 (v + 1) (turn_at ports f ready ahead j)) (sym here.first)
          (λ j l. here.before j l ∙ ap (λ x. bit_or x (turn j v)) (inv.before j l) ∙ sym (union-next v (turn j)));
      picked = subst (λ f. (j k : ℕ) → j < ports.width → k < v + 1 → word (index j k) new.picked ≡ less (turn_at ports f ready ahead j k) (union_from 0 k (turn_at ports f ready ahead j))) (sym here.first)
          (λ j k l m. elim (cases_eq k v) [
            | inl same ↦ subst (λ x. word (index j x) new.picked ≡ less (turn j x) (union_from 0 x (turn j))) (sym same) (here.picked j l ∙ ap (less (turn j v)) (inv.before j l))
            | inr other ↦ let below : k < v = omega (arith, m, other) in out j k l below ∙ inv.picked j k l below
          ]);
      past = subst (λ f. (j k : ℕ) → j < ports.width → k < v + 1 → word (index j k) past ≡ union_from 0 k (turn_at ports f ready ahead j)) (sym here.first)
          (λ j k l m. elim (cases_eq k v) [
            | inl same ↦ subst (λ x. word (index j x) past ≡ union_from 0 x (turn j)) (sym same) (wrote.here j l ∙ inv.before j l)
            | inr other ↦ let below : k < v = omega (arith, m, other) in out_past j k l below ∙ inv.past j k l below
          ]);
      others = λ k o.
          let step : (v + 1) * ports.width ≡ v * ports.width + ports.width = omega arith in
          let near : (k < ports.first + v * ports.width) ⊎ (ports.first + v * ports.width + ports.width ≤ k) = elim o [ inl l ↦ inl (omega (arith, l)) | inr m ↦ inr (omega (arith, m, step)) ] in
          let far : (k < ports.first) ⊎ (ports.first + v * ports.width ≤ k) = elim o [ inl l ↦ inl l | inr m ↦ inr (omega (arith, m, step)) ] in
          (here.others k near ∙ (inv.others k far).0, wrote.others k near ∙ (inv.others k far).1);
    }

pub returns-clause-picked : goal.returns-clause-picked
returns-clause-picked c = λ j r l.
    let inv = c.loop-v.invariant in
    let ports = c.args.ports.now in
    record {
      first = picked-first (port_at ports j) r (slice_index c.loop-v.turn.first j) c.args.ready.now c.args.ahead.now (inv.first j r l) c.loop-v.picked (λ k m. inv.picked j k l (omega arith));
      after = past-first (port_at ports j) r (slice_index c.loop-v.turn.first j) c.args.ready.now c.args.ahead.now (inv.first j r l) c.loop-v.past (λ i b. inv.past j i l (omega arith));
    }

pub returns-clause-some : goal.returns-clause-some
returns-clause-some c = λ j r l.
    let inv = c.loop-v.invariant in
    let all : c.loop-v.v ≡ c.args.ports.now.vcs = omega arith in
    ap (λ w. has_bit w r) (inv.before j l ∙ ap (λ n. union_from 0 n (turn_at c.args.ports.now c.loop-v.turn.first c.args.ready.now c.args.ahead.now j)) all)
    ∙ some-first (port_at c.args.ports.now j) r (slice_index c.loop-v.turn.first j) c.args.ready.now c.args.ahead.now (inv.first j r l)
