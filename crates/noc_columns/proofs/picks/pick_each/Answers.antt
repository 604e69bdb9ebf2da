use Rattle.std.proofs.Common.{◌≡◌, ℕ, ◌<◌, ◌∙◌, ap, arith, sym, refl, inl, inr, set, slice_index, get_or-set_other, get_or-set_same}
use Rattle.std.specs.Prelude.{not, nat_eq}
use Rattle.std.proofs.lemmas.Bool.{cases_lt}
use Rattle.noc_packet.specs.Set.{has_bit}
use Rattle.noc_columns.specs.Picks.{port_at, port_of}
use Rattle.noc_columns.specs.Words.{word}
use Rattle.noc_columns.proofs.PortLemmas.{link-before, link-index, local-index, picked-same, sets-same}
use Rattle.noc_columns.proofs.picks.pick_each.Goals as goal

pub returns-clause-picked : goal.returns-clause-picked
returns-clause-picked c = λ p r l.
    let ports = c.args.ports.now in
    let ready = c.args.ready.now in
    let ahead = c.args.ahead.now in
    let links = c.pick_side-any in
    let local = c.pick_side-local in
    elim (cases_lt p ports.links.width) [
      | inl m ↦
          let before = λ (k : ℕ) (b : k < ports.links.vcs). link-before ports p k m b (omega arith) in
          picked-same (port_of ports p) (port_at ports.links p) r ready ahead links.new.picked links.new.past local.new.picked local.new.past refl
          (λ k b. link-index ports p k m)
          (λ k b. (local.ensures.others _ (inl (before k b))).0)
          (λ k b. (local.ensures.others _ (inl (before k b))).1)
          (links.ensures.picked p r m)
      | inr m ↦
          picked-same (port_of ports p) (port_at ports.local 0) r ready ahead local.new.picked local.new.past local.new.picked local.new.past (omega arith)
          (λ k b. local-index ports p k m)
          (λ k b x. word ((port_at ports.local 0).index k) local.new.picked)
          (λ k b x. word ((port_at ports.local 0).index k) local.new.past)
          (local.ensures.picked 0 r (omega arith))
    ]

pub returns-clause-some : goal.returns-clause-some
returns-clause-some c = λ p r l.
    let ports = c.args.ports.now in
    let ready = c.args.ready.now in
    let any = c.pick_side-any.result in
    let last = slice_index c.pick_side-local.result 0 in
    elim (cases_lt p ports.links.width) [
      | inl m ↦
          ap (λ w. has_bit w r) (get_or-set_other any ports.links.width p last 0 (omega (arith, m)))
          ∙ c.pick_side-any.ensures.some p r m
          ∙ ap (λ s. not (nat_eq s 0)) (sym (sets-same (port_of ports p) (port_at ports.links p) r ready ready refl (λ k b. ap (λ i. word i ready) (link-index ports p k m))))
      | inr m ↦
          let same : p ≡ ports.links.width = omega (arith, l, m) in
          ap (λ w. has_bit w r) (ap (slice_index (set any ports.links.width last)) same ∙ get_or-set_same any ports.links.width last 0 (omega arith))
          ∙ c.pick_side-local.ensures.some 0 r (omega arith)
          ∙ ap (λ s. not (nat_eq s 0)) (sym (sets-same (port_of ports p) (port_at ports.local 0) r ready ready (omega arith) (λ k b. ap (λ i. word i ready) (local-index ports p k m))))
    ]
