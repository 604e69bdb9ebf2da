-- What comes over the links of one port from another block, channel after channel.
use Rattle.std.proofs.Common.{◌≡◌, ◌≢◌, ℕ, ◌+◌, ◌*◌, ◌<◌, ◌≤◌, List, ap, ap₂, sym, ◌∙◌, refl, arith}
use Rattle.std.specs.Prelude.{◌||◌}
use Rattle.noc_packet.specs.Set.{has_bit}
use Rattle.noc_topo.specs.Shape.{opposite}
use Rattle.noc_columns.specs.Near.{comes_from}
use Rattle.noc_columns.specs.Picks.{port_at}
use Rattle.noc_columns.specs.Words.{word}
use Rattle.noc_columns.specs.declared.neighbours.Far.{Far}
use Rattle.noc_columns.specs.declared.ports.Ports.{Ports}
use Rattle.noc_columns.proofs.PassLemmas.{all-next}
use Rattle.noc_columns.proofs.PickLemmas.{apart}

-- the words of the first v channels of the port have what comes besides what they had, and the
-- others what they had
pub record AreJoined (links : Ports) (far : Far) (v : ℕ) (from old now : List ℕ) : Type 0 where
  pub done : (k : ℕ) → k < v → (r : ℕ) → r < 64
      → has_bit (word ((port_at links far.port).index k) now) r
      ≡ (has_bit (word ((port_at links far.port).index k) old) r || comes_from far.distance far.mask (word ((port_at links (opposite far.port)).index k) from) r)
  pub others : (k : ℕ) → ((c : ℕ) → c < links.vcs → k ≢ (port_at links far.port).index c) → word k now ≡ word k old
  pub left : (k : ℕ) → v ≤ k → k < links.vcs → word ((port_at links far.port).index k) now ≡ word ((port_at links far.port).index k) old

pub joined-none : (links : Ports) (far : Far) (from old : List ℕ) → AreJoined links far 0 from old old
joined-none links far from old = record { done = λ k l. absurd (omega (arith, l)); others = λ k away. refl; left = λ k l m. refl }

module _ (links : Ports) (far : Far) (v : ℕ) (first : links.first ≡ 0) (inside : far.port < links.width) (l : v < links.vcs) (from old now new : List ℕ) (other : ℕ) (end : other ≡ v * links.width + opposite far.port)
    (here : (r : ℕ) → r < 64 → has_bit (word (v * links.width + far.port) new) r ≡ (has_bit (word (v * links.width + far.port) now) r || comes_from far.distance far.mask (word other from) r))
    (others : (k : ℕ) → k ≢ v * links.width + far.port → word k new ≡ word k now) where
  index : (port_at links far.port).index v ≡ v * links.width + far.port
  index = omega (arith, first)

  pub joined-next : AreJoined links far v from old now → AreJoined links far (v + 1) from old new
  joined-next are = record {
    done = all-next
        (λ k. (r : ℕ) → r < 64 → has_bit (word ((port_at links far.port).index k) new) r ≡ (has_bit (word ((port_at links far.port).index k) old) r || comes_from far.distance far.mask (word ((port_at links (opposite far.port)).index k) from) r)) v
        (λ k m r few. let p = apart k v links.width far.port m inside in ap (λ w. has_bit w r) (others _ (omega (arith, p, first))) ∙ are.done k m r few)
        (λ r few.
        ap (λ i. has_bit (word i new) r) index ∙ here r few
        ∙ ap₂ (λ a b. a || b) (ap (λ i. has_bit (word i now) r) (sym index) ∙ ap (λ w. has_bit w r) (are.left v (omega arith) l))
        (ap (λ i. comes_from far.distance far.mask (word i from) r) (let e : other ≡ links.first + v * links.width + opposite far.port = omega (arith, end, first) in e)));
    others = λ k away. others k (λ e. away v l (e ∙ sym index)) ∙ are.others k away;
    left = λ k m few.
        let p = apart v k links.width far.port (omega (arith, m)) inside in
        others _ (omega (arith, p, first, inside)) ∙ are.left k (omega (arith, m)) few;
  }
