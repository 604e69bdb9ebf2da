use Rattle.std.proofs.Common.{◌≡◌, ◌⊎◌, ℕ, ◌+◌, ◌*◌, ◌<◌, ◌≤◌, ◌∙◌, List, ap, arith, subst, sym, inl, inr, slice_index}
use Rattle.std.specs.Prelude.{◌&&◌, nat_eq}
use Rattle.std.proofs.lemmas.Bool.{cases_eq}
use Rattle.noc_packet.specs.Set.{has_bit}
use Rattle.noc_columns.specs.Picks.{port_at}
use Rattle.noc_columns.specs.Supply.{digits_by, number_in}
use Rattle.noc_columns.specs.Words.{word}
use Rattle.noc_columns.specs.declared.ports.Ports.{Ports}
use Rattle.noc_columns.proofs.PickLemmas.{apart}
use Rattle.noc_columns.proofs.PortLemmas.{link-index, written-next}
use Rattle.noc_columns.proofs.switch.send.Goals as goal

-- one virtual channel more of ports that stand side by side
side-next : (ports : Ports) (now new : List ℕ) (Q : ℕ → ℕ → ℕ → Type 0) (v : ℕ)
    → ((q k : ℕ) → q < ports.width → k < v → Q q k (word ((port_at ports q).index k) now))
    → ((q : ℕ) → q < ports.width → Q q v (word ((port_at ports q).index v) new))
    → ((k : ℕ) → (k < ports.first + v * ports.width) ⊎ (ports.first + v * ports.width + ports.width ≤ k) → word k new ≡ word k now)
    → (q k : ℕ) → q < ports.width → k < v + 1 → Q q k (word ((port_at ports q).index k) new)
side-next ports now new Q v done here others q k l m = elim (cases_eq k v) [
  | inl same ↦ subst (λ x. Q q x (word ((port_at ports q).index x) new)) (sym same) (here q l)
  | inr other ↦
      let below : k < v = omega (arith, m, other) in
      let far = apart k v ports.width q below l in
      subst (Q q k) (sym (others _ (inl (omega (arith, far))))) (done q k l below)
]

pub loop-v-preserved : goal.loop-v-preserved
loop-v-preserved c =
    let ports = c.args.ports.now in
    let taken = c.args.taken.now in
    let v = c.loop-v.v in
    let inv = c.loop-v.invariant in
    let sent = c.send_by.ensures in
    let any = λ (q k r : ℕ). has_bit (slice_index taken.any q) r && nat_eq (number_in (digits_by (word q) taken.vc) r) k in
    record {
      sends = written-next ports c.loop-v.sends c.put.new.words taken.sends (λ p k w. w ≡ slice_index taken.sends p) v (omega arith) inv.sends c.put.ensures.here c.put.ensures.others (λ p l x. slice_index taken.sends p);
      flits = side-next ports.links c.loop-v.left.flits c.send_by.new.left.flits (λ q k w. (r : ℕ) → has_bit w r ≡ any q k r) v inv.flits (λ q l r. sent.flits q r l) (λ k o. (sent.others k o).0);
      tails = side-next ports.links c.loop-v.left.tails c.send_by.new.left.tails (λ q k w. (r : ℕ) → has_bit w r ≡ (any q k r && has_bit (slice_index taken.tail q) r)) v inv.tails (λ q l r. sent.tails q r l) (λ k o. (sent.others k o).1);
      left = sent.rest ∙ inv.left;
    }

pub returns-clause-sends : goal.returns-clause-sends
returns-clause-sends c = λ p v l m. c.loop-v.invariant.sends p v l (omega arith)

pub returns-clause-flits : goal.returns-clause-flits
returns-clause-flits c = λ q v r l m. ap (λ i. has_bit (word i c.loop-v.left.flits) r) (link-index c.args.ports.now q v l) ∙ c.loop-v.invariant.flits q v l (omega arith) r

pub returns-clause-tails : goal.returns-clause-tails
returns-clause-tails c = λ q v r l m. ap (λ i. has_bit (word i c.loop-v.left.tails) r) (link-index c.args.ports.now q v l) ∙ c.loop-v.invariant.tails q v l (omega arith) r
