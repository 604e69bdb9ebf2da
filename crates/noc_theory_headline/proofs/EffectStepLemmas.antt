-- What the verdicts of a cycle do.
use Rattle.std.proofs.Common.{◌≡◌, ℕ, suc, ◌+◌, ◌<◌, refl, ap, sym, subst, ◌∙◌, arith}
use Rattle.noc_theory.specs.Network.{Setup, after_credits, after_injection, after_landing, arbiters_at, frozen_state, has_channel, owner_of, place_of_flit, size, state_at, frozen_at, network_cycle}
use Rattle.noc_theory.specs.Good.{IsWellFormedSetup}
use Rattle.noc_theory.proofs.join.OrderedStateLemmas.{ordered-frozen, ordered-state}
use Rattle.noc_theory.proofs.join.LockstepTheoremLemmas.{good-network}
use Rattle.noc_theory_headline.specs.Effects.{IsRightStep, IsPointerAfter}
use Rattle.noc_theory_headline.specs.Headline.{IsInputOf, IsPick, WinsChannel, WinsSwitch}
use Rattle.noc_theory_headline.proofs.CycleLemmas.{somewhere}
use Rattle.noc_theory_headline.proofs.RoutedLemmas.{routed-after, credit-after}
use Rattle.noc_theory.proofs.join.PlaceViewLemmas.{arriving-at}
use Rattle.noc_topo.specs.Lists.{Has}
use Rattle.noc_route.specs.Channel.{Channel}
use Rattle.noc_theory_headline.proofs.EffectLemmas.{granted-to, to-granted, moved-sent, sent-moved, sent-goes}
use Rattle.noc_theory_headline.proofs.ReleaseLemmas.{kept-by, released-by}
use Rattle.noc_theory_headline.proofs.StartLemmas.{starts}
use Rattle.noc_theory_headline.proofs.ArbiterEffectLemmas.{channel-pointers, input-pointers, output-pointers}
use Rattle.noc_theory_headline.proofs.SourceEffectLemmas.{by-injected, by-owned, injected-by, owned-by}
use Rattle.noc_theory.proofs.worms.OneBackLemmas.{arbiters-frozen}
use Rattle.noc_theory.proofs.worms.RoutedVerdictLemmas.{has-channel}
use Rattle.std.proofs.lemmas.Bool.{false≢true}
use Rattle.noc_topo.specs.Shape.{ports}
use Rattle.noc_alloc.specs.Arbiter.{arbiter_at}

-- the routed channels are those of the start
routed-frozen : (net : Setup) (n : ℕ) → (frozen_at net n).routed ≡ (state_at net n).routed
unfolding frozen_state after_landing after_credits after_injection
routed-frozen net n = refl

module _ (net : Setup) (made : IsWellFormedSetup net) where
  pub right-step : (n : ℕ) → IsRightStep net n
  unfolding state_at network_cycle
  right-step n =
      let good = good-network net made in
      let F = frozen_at net n in
      let x = ordered-frozen net good n in
      let after = ordered-state net good (n + 1) in
      let s : n + 1 ≡ suc n = omega arith in
      let input = λ (r i : ℕ) (c : Channel) (at : IsInputOf net r i c). arriving-at net good r i c at.router at.index at.is in
      record {
        starts = starts net made n;
        injects = λ p i v valid. ((λ h. injected-by net made n p i v valid h.0 h.1), (λ h. by-injected net made n p i v valid h.0 h.1));
        owners = λ o p. (owned-by net made n o p, by-owned net made n o p);
        no_credit = λ c h. false≢true (sym (x.no_credit c) ∙ has-channel c F.back h);
        routed_same = routed-frozen net n;
        pointers_same = arbiters-frozen net n (state_at net n);
        routed = λ r i c at.
            let e = routed-after net good F x n r i c (input r i c at) in
            ((λ h. e.0 (ap (λ m. has_channel (state_at net m).routed c) (sym s) ∙ h)), (λ h. ap (λ m. has_channel (state_at net m).routed c) s ∙ e.1 h));
        routed_inputs = λ c h.
            let only = after.whole.routed.mid.only c (has-channel c (state_at net (n + 1)).routed h) in
            somewhere net made c (after.whole.covered c only.0 only.1);
        credit_inputs = λ c h. somewhere net made c (after.back_in c (has-channel c (state_at net (n + 1)).back h)).1;
        channel_pointers = λ r o l u.
            subst (λ (m : ℕ). IsPointerAfter (size net) (λ i. WinsChannel net F r i o) (arbiter_at (arbiters_at net F r).channels o).pointer (arbiter_at (arbiters_at net (state_at net m) r).channels o).pointer) (sym s)
            (channel-pointers net good n x r l o u);
        output_pointers = λ r q l u.
            subst (λ (m : ℕ). IsPointerAfter (ports net.relation.grid) (λ k. WinsSwitch net F r k q) (arbiter_at (arbiters_at net F r).outputs q).pointer (arbiter_at (arbiters_at net (state_at net m) r).outputs q).pointer) (sym s)
            (output-pointers net good n x r l q u);
        input_pointers = λ r q l u.
            subst (λ (m : ℕ). IsPointerAfter net.relation.vcs (λ v. IsPick net F r q v × ((out : ℕ) × (out < ports net.relation.grid) × WinsSwitch net F r q out)) (arbiter_at (arbiters_at net F r).inputs q).pointer (arbiter_at (arbiters_at net (state_at net m) r).inputs q).pointer) (sym s)
            (input-pointers net good n x r l q u);
        credit = λ r i c at.
            let e = credit-after net good F x n r i c (input r i c at) in
            ((λ h. e.0 (subst (λ (m : ℕ). Has c (state_at net m).back) s h)), (λ h. subst (λ (m : ℕ). Has c (state_at net m).back) (sym s) (e.1 h)));
        granted = λ o p idle. ((λ e. granted-to net good F x n o p idle (ap (λ m. owner_of net (state_at net m) o) (sym s) ∙ e)), (λ g. ap (λ m. owner_of net (state_at net m) o) s ∙ to-granted net good F x n o p g));
        kept = λ o p own stays. ap (λ m. owner_of net (state_at net m) o) s ∙ kept-by net good F x n o p own stays;
        released = λ o p own left. ap (λ m. owner_of net (state_at net m) o) s ∙ released-by net good F x n o p own left;
        moved = λ p i v. (
          (λ other. moved-sent net good F x n p i v (λ e. other (ap (λ m. place_of_flit net (state_at net m) p i) s ∙ e))),
          (λ sent e. sent-moved net good F x n p i sent.0 v sent.1 (ap (λ m. place_of_flit net (state_at net m) p i) (sym s) ∙ e)),
        );
        goes = λ p i o v sent. ap (λ m. place_of_flit net (state_at net m) p i) s ∙ sent-goes net good F x n p i o v sent;
      }
