-- Where nothing happens in a cycle, the packets that hold the channels are those that held them.
use Rattle.std.proofs.Common.{◌≡◌, ℕ, suc, ◌+◌, ◌*◌, ◌/◌, ◌%◌, ◌<◌, false, Option, Some, None, IfSome, refl, ap, sym, ◌∙◌, subst, inl, inr}
use Rattle.std.specs.Prelude.{◌⊎◌, is_some}
use Rattle.noc_theory_bits.proofs.Common.{true≢false, nodes, neighbour, link_back, CYCLE_LIMIT, IsGoodSetup, has_event_at, Setup, frozen_at, state_at, ShowsHolders, holder_at}
use Rattle.noc_theory_bits.specs.Owners.{grants_of, told_by, told_over}
use Rattle.noc_theory_bits.proofs.bits.BegunLemmas.{Begins, holder-frozen}
use Rattle.noc_theory_bits.proofs.bits.HolderLemmas.{holders-told, link-size}
use Rattle.noc_theory_bits.proofs.network.NetworkLemmas.{good}
use Rattle.noc_theory_bits.proofs.stuck.QuietLemmas.{none-injected, quiet-grants}

module _ (net : Setup) (setup : IsGoodSetup net) (n : ℕ) (few : n < CYCLE_LIMIT) (none : (r : ℕ) → r < nodes net.relation.grid → has_event_at net n r ≡ false)
    (packets : ℕ → ℕ → ℕ) (shows : (r : ℕ) → r < nodes net.relation.grid → ShowsHolders net (state_at net n) r (packets r)) where
  still : (r : ℕ) → r < nodes net.relation.grid → ShowsHolders net (frozen_at net n) r (packets r)
  still r l i u = at (holder_at net (frozen_at net n) r i) refl
    where
      by : (p : ℕ) → (holder_at net (state_at net n) r i ≡ Some p) ⊎ Begins net setup n r l i p → packets r i ≡ p
      by p (inl h) = subst (λ (o : Option ℕ). IfSome o (λ q. packets r i ≡ q)) h (shows r l i u)
      by p (inr g) = absurd (true≢false (sym (ap is_some g.injection) ∙ none-injected net setup n r l few (none r l)))

      at : (o : Option ℕ) → holder_at net (frozen_at net n) r i ≡ o → IfSome (holder_at net (frozen_at net n) r i) (λ p. packets r i ≡ p)
      at None e = subst (λ (o : Option ℕ). IfSome o (λ p. packets r i ≡ p)) (sym e) tt
      at (Some p) e = subst (λ (o : Option ℕ). IfSome o (λ q. packets r i ≡ q)) (sym e) (by p (holder-frozen net setup n r l i p u e))

  pub holders-next : (r : ℕ) → r < nodes net.relation.grid → ShowsHolders net (state_at net (suc n)) r (packets r)
  holders-next r l i u =
      subst (λ k. IfSome (holder_at net (state_at net (suc n)) r i) (λ p. k ≡ p)) (untold (neighbour net.relation.grid r (i / net.relation.vcs)) refl)
      (holders-told net setup n packets still r l i u)
    where
      untold : (o : Option (ℕ × ℕ)) → neighbour net.relation.grid r (i / net.relation.vcs) ≡ o → told_over net.relation.vcs (grants_of net n) packets (packets r i) (i % net.relation.vcs) o ≡ packets r i
      untold None e = refl
      untold (Some (to, port)) e =
          ap (told_by (packets to) (packets r i))
          (quiet-grants net setup n to (link_back net.relation.grid r (i / net.relation.vcs) to port (good net setup).relation.table.grid l e).node few
          (none to (link_back net.relation.grid r (i / net.relation.vcs) to port (good net setup).relation.table.grid l e).node)
          (port * net.relation.vcs + i % net.relation.vcs) (link-size net setup r l i to port e))
