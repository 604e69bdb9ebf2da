-- Who moves through an output channel, and to whom it is granted, by the view and by the state.
use Rattle.std.proofs.Common.{◌≡◌, ℕ, ◌+◌, ◌*◌, ◌/◌, ◌<◌, true, get_or, Some, None, refl, ap, sym, ◌∙◌, subst, arith}
use Rattle.std.specs.Prelude.{option_and_then, if◌then◌else◌}
use Rattle.noc_view.proofs.PlanLemmas.{Lists, Mover, mover-is, moves-is, granted-asks, is-granted, verdict_in as verdict_at_view}
use Rattle.noc_view.proofs.MoverLemmas.{mover_to-is}
use Rattle.noc_theory.proofs.Common.{none-some, same_Some, is_some_of, Has, nodes, ports, is_some_of-some, Channel, sending_router, output_index, same_channel, Claim, Unrouted, Waits, Holds, out_of, Site, View, Decisions, size_of, view_claim, view_round, decisions_of, mover, mover_to, Granted, Moved, Setup, State, Located, Place, In, size, arriving, leaving, place_of_flit, owner_of, next_channel, leads_from, verdict_in, claim_of, count_in, front_in, is_in, round_at, IsSeen}
use Rattle.noc_theory.proofs.worms.BufferLemmas.{find-passes}
use Rattle.noc_theory.proofs.worms.GrantLemmas.{IsGrant}
use Rattle.noc_theory.proofs.worms.MemberLemmas.{find-has}
use Rattle.noc_theory.proofs.worms.MoveLemmas.{IsNext, first-is as first-of}
use Rattle.noc_theory.proofs.worms.OwnedLemmas.{owner-is}
use Rattle.noc_theory.proofs.worms.StateWordLemmas.{IsHeld}
use Rattle.noc_theory.proofs.worms.PlaceLemmas.{is_in-is}
use Rattle.noc_theory.proofs.verdicts.AfterLemmas.{Moves, Goes, goes, stays, moves, step}
use Rattle.noc_theory.proofs.verdicts.CommitInputLemmas.{d, first-some, first-packet, claim-holds, given-at, Given, won-below}
use Rattle.noc_theory.proofs.join.OrderedLemmas.{IsGood, IsOrderedFrozen}
use Rattle.noc_theory.proofs.join.PlaceViewLemmas.{IsAt, IsFrom, leaving-from, arriving-at, input-at, begins-at}
use Rattle.noc_theory.proofs.injection.SourceLemmas.{next-owner, not-end, at-router}
use Rattle.noc_theory.proofs.verdicts.StandLemmas.{InputCase, none, some, input-case, claim-none, claim-some, flit-some, verdict-some, next-from}

module _ (net : Setup) (good : IsGood net) (F : State) (x : IsOrderedFrozen net F) (n r : ℕ) (l : r < nodes net.relation.grid) (v : View) (seen : IsSeen net F r v) where
  abbrev D : Decisions
  D = decisions_of net.relation v

  pub lists : Lists (decisions_of net.relation v) v
  unfolding decisions_of view_round
  lists = record { grants = refl; picks = refl; wins = refl; findings = refl }

  pub same_size : size_of v.site ≡ size net
  same_size = ap size_of seen.site

  pub same_round : (decisions_of net.relation v).round ≡ round_at net F r
  unfolding decisions_of
  same_round = Rattle.noc_theory.proofs.verdicts.StandLemmas.round-is net good F x r l v seen

  -- the verdict of an input channel
  pub view-verdict : (i : ℕ) (c : Channel) → i < size net → arriving net r i ≡ Some c → IsAt net good r i c → verdict_at_view (decisions_of net.relation v) v i ≡ verdict_in net F c
  unfolding decisions_of
  view-verdict i c u e at = verdict-some net good F x r l v seen i c u e at

  -- the output channel with an index is the one that has it
  pub same-out : (i p o : ℕ) (c q : Channel) → IsAt net good r i c → Has (c, p) F.own → next_channel net F c ≡ Some q → output_index net.relation.grid net.relation.vcs q ≡ o → q ≡ leaving net r o
  same-out i p o c q at h e k =
      let f = next-from net good F x r l v seen i p c q at h e in
      let j : f.0 ≡ o = sym f.1.is_index ∙ k in
      sym f.1.found ∙ ap (leaving net r) j

  -- the first flit of input channel i moves to output channel o
  pub record MoverTo (o i : ℕ) : Type 0 where
    pub channel : Channel
    pub packet : ℕ
    pub flit : Located
    pub within : i < size net
    pub found : arriving net r i ≡ Some channel
    pub at : IsAt net good r i channel
    pub own : Has (channel, packet) F.own
    pub verdict : verdict_in net F channel ≡ Moved
    pub next : next_channel net F channel ≡ Some (leaving net r o)
    pub first : front_in net F channel ≡ Some flit
    pub member : Has flit F.at
    pub of_packet : flit.packet ≡ packet
    pub claim : view_claim v i ≡ Holds o true
    pub goes : Moves net good F x n flit.packet flit.index channel (leaving net r o)
    pub to : (step net good F x n flit).place ≡ Rattle.noc_theory.specs.Network.gone_to net n channel (Some (leaving net r o))

  pub from-mover : (o i : ℕ) (port : ℕ) → Mover D v port i → view_claim v i ≡ Holds o true → MoverTo o i
  from-mover o i port mv claim = by (input-case net good F x r l v seen i within)
    where
      within : i < size net
      within = let k = mv.within in let s = same_size in omega (arith, k, s)

      by : InputCase net good F x r l v seen i → MoverTo o i
      by (none e) = let z : Unrouted ≡ Holds o true = sym (claim-none net good F x r l v seen i within e) ∙ claim in absurd (cc z)
      by (some c e at) = moving (goes net good F x n f.0 member)
        where
          holds : claim_of net F r c ≡ Holds o true
          holds = sym (claim-some net good F x r l v seen i c within e at) ∙ claim

          next : (q : Channel) × (next_channel net F c ≡ Some q) × (output_index net.relation.grid net.relation.vcs q ≡ o) × (Rattle.noc_theory.specs.Network.has_credit_in net F q ≡ true)
          next = (claim-holds net F r c o true holds).1

          owner : (p : ℕ) × Has (c, p) F.own × IsNext net good.built F x.whole.sound.keyed x.whole.sound.worm p c next.0
          owner = next-owner net good F x.whole.sound.keyed x.whole.sound.worm c next.0 next.1

          is_o : next.0 ≡ leaving net r o
          is_o = same-out i owner.0 o c next.0 at owner.1 next.1 next.2

          f : (f : Located) × (front_in net F c ≡ Some f)
          f = first-some net good F x n r l v seen c (sym (flit-some net good F x r l v seen i c within e) ∙ mv.flit)

          member : Has f.0 F.at
          member = find-has (λ (g : Located). is_in c g.place) F.at f.0 f.1

          verdict : verdict_in net F c ≡ Moved
          verdict = sym (view-verdict i c within e at) ∙ mv.verdict

          moving : Goes net good F x n f.0 → MoverTo o i
          moving (stays s not_first) = absurd (not_first c verdict (first-of net good.built F x.whole.sound.keyed x.whole.sound.worm c f.0 f.1))
          moving (moves a b m was now) =
              let in_c : f.0.place ≡ In c = is_in-is c f.0.place (find-passes (λ (g : Located). is_in c g.place) F.at f.0 f.1) in
              let z : In a ≡ In c = sym was ∙ in_c in
              let same_a : a ≡ c = cc in
              let goes_b : next_channel net F c ≡ Some b = ap (next_channel net F) (sym same_a) ∙ m.goes in
              let same_b : b ≡ leaving net r o = same_Some _ _ (sym goes_b ∙ next.1) ∙ is_o in
              record {
                channel = c;
                packet = owner.0;
                flit = f.0;
                within = within;
                found = e;
                at = at;
                own = owner.1;
                verdict = verdict;
                next = next.1 ∙ ap Some is_o;
                first = f.1;
                member = member;
                of_packet = first-packet net good F x n r l v seen c owner.0 f.0 (owner-is net F c owner.0 x.whole.sound.worm.once owner.1) f.1;
                claim = claim;
                goes = subst (λ (y : Channel). Moves net good F x n f.0.packet f.0.index c y) same_b (subst (λ (y : Channel). Moves net good F x n f.0.packet f.0.index y b) same_a m);
                to = now ∙ ap (λ (y : Channel). Rattle.noc_theory.specs.Network.gone_to net n y (Some b)) same_a ∙ ap (λ (y : Channel). Rattle.noc_theory.specs.Network.gone_to net n c (Some y)) same_b;
              }

  -- by the mover of the view
  pub mover-moves : (o i : ℕ) → o < size net → mover_to v D.round o ≡ Some i → MoverTo o i
  mover-moves o i u e =
      let t = mover_to-is D v o i e in
      let low : o / v.site.vcs < ports v.site.grid = subst (λ (s : Site). o / s.vcs < ports s.grid) (sym seen.site) (Rattle.noc_theory.proofs.join.PlaceViewLemmas.port-below net good o u) in
      let mv = mover-is D v (o / v.site.vcs) i lists low t.0 in
      let s : mv.out ≡ o = same_Some _ _ (sym (ap out_of mv.claim) ∙ t.1) in
      from-mover o i (o / v.site.vcs) mv (mv.claim ∙ ap (λ k. Holds k true) s)

  -- what moves to an output channel is its mover
  pub moves-mover : (o p j : ℕ) (c : Channel) → o < size net → Moves net good F x n p j c (leaving net r o) → (i : ℕ) × (mover_to v D.round o ≡ Some i)
  moves-mover o p j c u m =
      let h : IsHeld net F c p = (m.owns, not-end net good F x.whole.sound.keyed x.whole.sound.worm c (leaving net r o) m.next.leads) in
      let at = at-router net good F x.whole.sound.keyed x.whole.sound.worm r o c (x.whole.covered c p h) m.next.leads in
      let i : ℕ = at.0 in
      let some_vcs : 0 < v.site.vcs = subst (λ (s : Site). 0 < s.vcs) (sym seen.site) good.relation.table.some_vcs in
      let mv = moves-is D v i some_vcs (view-verdict i c at.1.index at.1.found at.1 ∙ m.moves) in
      let holds : claim_of net F r c ≡ Holds mv.out true = sym (claim-some net good F x r l v seen i c at.1.index at.1.found at.1) ∙ mv.claim in
      let next = (claim-holds net F r c mv.out true holds).1 in
      let same : next.0 ≡ leaving net r o = same_Some _ _ (sym next.1 ∙ m.goes) in
      let out : mv.out ≡ o = sym next.2 ∙ ap (output_index net.relation.grid net.relation.vcs) same ∙ (leaving-from net good r o u).is_index in (
        i,
        ap (λ k. option_and_then (λ a. if is_some_of (out_of (view_claim v a)) o then Some a else None) (mover v.site D.round (k / v.site.vcs))) (sym out)
            ∙ ap (option_and_then (λ a. if is_some_of (out_of (view_claim v a)) o then Some a else None)) mv.mover
            ∙ ap (λ (k : Claim). if is_some_of (out_of k) o then Some i else None) mv.claim
            ∙ ap (λ b. if b then Some i else None) (is_some_of-some (Some mv.out) o (ap Some out)),
      )

  pub nothing-moves : (o : ℕ) → o < size net → mover_to v D.round o ≡ None → (c : Channel) (p j : ℕ) → Moves net good F x n p j c (leaving net r o) → ⊥
  nothing-moves o u e c p j m = let k = moves-mover o p j c u m in none-some k.0 (sym e ∙ k.1)

  -- ---- grants

  pub record GivenTo (o i : ℕ) : Type 0 where
    pub channel : Channel
    pub packet : ℕ
    pub within : i < size net
    pub found : arriving net r i ≡ Some channel
    pub at : IsAt net good r i channel
    pub own : owner_of net F channel ≡ Some packet
    pub verdict : verdict_in net F channel ≡ Granted
    pub pair : Rattle.noc_theory.specs.Network.granted_pair net F channel ≡ Some (leaving net r o, packet)
    pub grant : IsGrant net F channel (leaving net r o) packet

  pub grant-given : (o i : ℕ) → o < size net → get_or D.round.grants o None ≡ Some i → GivenTo o i
  grant-given o i u e = by (input-case net good F x r l v seen i within)
    where
      asks : (i < size_of v.site) × (view_claim v i ≡ Waits (Some o))
      asks = granted-asks D v o i lists (let s = same_size in omega (arith, s)) e

      within : i < size net
      within = let a = asks.0 in let s = same_size in omega (arith, s, a)

      by : InputCase net good F x r l v seen i → GivenTo o i
      by (none k) = let z : Unrouted ≡ Waits (Some o) = sym (claim-none net good F x r l v seen i within k) ∙ asks.1 in absurd (cc z)
      by (some c k at) =
          let verdict : verdict_in net F c ≡ Granted = sym (view-verdict i c within k at) ∙ is-granted D v o i asks.1 e in
          let waits = Rattle.noc_theory.proofs.verdicts.CommitInputLemmas.claim-waits net F r c o (sym (claim-some net good F x r l v seen i c within k at) ∙ asks.1) in
          let p = x.whole.routed.mid.only c waits.0 in
          let own : owner_of net F c ≡ Some p.0 = owner-is net F c p.0 x.whole.sound.worm.once p.1.0 in
          let g = given-at net good F x n r l v seen i p.0 c within k at own verdict in
          let z : Waits (Some g.out) ≡ Waits (Some o) = sym g.asks ∙ asks.1 in
          let same : g.out ≡ o = cc in
          record {
            channel = c;
            packet = p.0;
            within = within;
            found = k;
            at = at;
            own = own;
            verdict = verdict;
            pair = g.pair ∙ ap (λ y. Some (leaving net r y, p.0)) same;
            grant = subst (λ y. IsGrant net F c (leaving net r y) p.0) same g.grant;
          }

  -- a grant of the state is one of the view
  pub given-grant : (o p : ℕ) (c : Channel) → o < size net → IsGrant net F c (leaving net r o) p → (i : ℕ) × (get_or D.round.grants o None ≡ Some i)
  given-grant o p c u g =
      let f = leaving-from net good r o u in
      let router : g.router ≡ r = same_Some _ _ (sym (begins-at net good g.router g.index) ∙ ap sending_router g.is_output ∙ begins-at net good r o) in
      let index : g.index ≡ o = sym (Rattle.noc_theory.proofs.worms.GrantLemmas.index-output net g.router g.index) ∙ ap (output_index net.relation.grid net.relation.vcs) g.is_output ∙ f.is_index in (
        g.port * net.relation.vcs + Rattle.noc_route.specs.Channel.channel_vc c,
        ap (λ (y : Rattle.noc_view.specs.Verdict.Round). get_or y.grants o None) same_round ∙ ap (λ y. get_or (round_at net F y).grants o None) (sym router) ∙ ap (λ y. get_or (round_at net F g.router).grants y None) (sym index) ∙ g.won,
      )
