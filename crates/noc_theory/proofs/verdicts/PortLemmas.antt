-- What leaves by a port: by the view, and by the state.
use Rattle.std.proofs.Common.{◌≡◌, ℕ, ◌+◌, ◌*◌, ◌/◌, ◌%◌, ◌<◌, true, false, Option, Some, None, refl, ap, sym, ◌∙◌, inl, inr, subst, arith}
use Rattle.std.specs.Prelude.{find, option_map, option_and_then, is_some, ◌⊎◌, ◌&&◌, nat_eq, if◌then◌else◌}
use Rattle.noc_view.specs.View.{beat_out}
use Rattle.noc_view.proofs.FindLemmas.{find-at, find-none}
use Rattle.noc_view.proofs.PlanLemmas.{mover-is}
use Rattle.noc_view.proofs.MoverLemmas.{mover_to-is}
use Rattle.noc_theory.proofs.Common.{false≢true, true≢false, none-some, same_Some, div-add-mod', div-mul-add, mod-mul-add, below, nodes, ports, local_port, neighbour, IsLinkBack, link_back, flit_at, Flit, Channel, Link, Inject, is_link, Claim, Holds, out_of, is_moved, Site, View, Decisions, view_claim, decisions_of, mover, mover_to, flit_out, first_flit, decided_verdict, find-same, flit_on, beat_by, Setup, State, Located, size, arriving, leaving, packet_at, has_channel, is_on, verdict_in, gone_to, after_verdicts, all_inputs, IsSeen}
use Rattle.noc_theory.proofs.worms.BufferLemmas.{same_channel-refl, find-passes}
use Rattle.noc_theory.proofs.worms.MemberLemmas.{find-has, find-some, Has-map, Has-mapped}
use Rattle.noc_theory.proofs.worms.MoveLemmas.{next-once}
use Rattle.noc_theory.proofs.worms.RoutedVerdictLemmas.{has-channel}
use Rattle.noc_theory.proofs.verdicts.AfterLemmas.{Moves, step}
use Rattle.noc_theory.proofs.verdicts.AfterOutputLemmas.{comes, on-none}
use Rattle.noc_theory.proofs.verdicts.CommitInputLemmas.{first-is, decided-some}
use Rattle.noc_theory.proofs.verdicts.MoverLemmas.{MoverTo, lists, from-mover, moves-mover}
use Rattle.noc_theory.proofs.verdicts.NextViewLemmas.{channel-filter}
use Rattle.noc_theory.proofs.join.OrderedLemmas.{IsGood, IsOrderedFrozen}
use Rattle.noc_theory.proofs.join.PlaceViewLemmas.{IsAt, arriving-at, arrives-in, link-from, in-size, port-below}
use Rattle.noc_theory.proofs.injection.SourceLemmas.{same-owner}

module _ (net : Setup) (good : IsGood net) (F : State) (x : IsOrderedFrozen net F) (n r : ℕ) (l : r < nodes net.relation.grid) (v : View) (seen : IsSeen net F r v) where
  abbrev T : State
  T = after_verdicts net n F

  abbrev D : Decisions
  D = decisions_of net.relation v

  abbrev pub flit_of : Located → Flit
  flit_of f = flit_at (packet_at net f.packet) f.packet f.index

  vcs-is : v.site.vcs ≡ net.relation.vcs
  vcs-is = ap (λ (s : Site). s.vcs) seen.site

  -- what moves by a port
  pub data ByPort (port : ℕ) : Type 0 where
    nothing : mover v.site D.round port ≡ None → flit_out v D.round port ≡ None → ByPort port
    something : (i o : ℕ) → mover v.site D.round port ≡ Some i → o < size net → o / net.relation.vcs ≡ port → (m : MoverTo net good F x n r l v seen o i) → flit_out v D.round port ≡ Some (o % net.relation.vcs, flit_of m.flit) → ByPort port

  pub by-port : (port : ℕ) → port < ports net.relation.grid → ByPort port
  by-port port u = at (mover v.site D.round port) refl
    where
      at : (k : Option ℕ) → mover v.site D.round port ≡ k → ByPort port
      at None e = nothing e (ap (option_and_then (λ i. option_and_then (λ o. option_map (λ f. (o % v.site.vcs, f)) (first_flit v i)) (out_of (view_claim v i)))) e)
      at (Some i) e =
          let low : port < ports v.site.grid = subst (λ (s : Site). port < ports s.grid) (sym seen.site) u in
          let mv = mover-is D v port i (lists net good F x n r l v seen) low e in
          let m = from-mover net good F x n r l v seen mv.out i port mv mv.claim in
          let to : mv.out / net.relation.vcs ≡ port = ap (λ k. mv.out / k) (sym vcs-is) ∙ mv.to in
          let inside : mv.out < size net = div-below mv.out port to u in
          something i mv.out e inside to m
          (ap (option_and_then (λ k. option_and_then (λ o. option_map (λ f. (o % v.site.vcs, f)) (first_flit v k)) (out_of (view_claim v k)))) e
          ∙ ap (λ (c : Claim). option_and_then (λ o. option_map (λ f. (o % v.site.vcs, f)) (first_flit v i)) (out_of c)) mv.claim
          ∙ ap (option_map (λ f. (mv.out % v.site.vcs, f))) (first-is net good F x n r l v seen i m.channel m.within m.found ∙ ap (option_map flit_of) m.first)
          ∙ ap (λ k. Some (mv.out % k, flit_of m.flit)) vcs-is)
        where
          div-below : (o port : ℕ) → o / net.relation.vcs ≡ port → port < ports net.relation.grid → o < size net
          div-below o port e u =
              let z : o / net.relation.vcs < ports net.relation.grid = omega (arith, e, u) in
              (Rattle.std.proofs.Math.Nat.div-lt_iff_lt-mul {k = net.relation.vcs} {x = o} {y = ports net.relation.grid} good.relation.table.some_vcs).0 z

  -- the flit that moves to an output channel is found by its port
  pub port-of : (o p j : ℕ) (c : Channel) → o < size net → Moves net good F x n p j c (leaving net r o) → (i : ℕ) × (mover v.site D.round (o / net.relation.vcs) ≡ Some i) × (mover_to v D.round o ≡ Some i)
  port-of o p j c u m =
      let k = moves-mover net good F x n r l v seen o p j c u m in
      (k.0, ap (λ y. mover v.site D.round (o / y)) (sym vcs-is) ∙ (mover_to-is D v o k.0 k.1).0, k.1)

  -- where nothing moves by a port, nothing moves to its channels
  pub port-idle : (port o p j : ℕ) (c : Channel) → o < size net → o / net.relation.vcs ≡ port → mover v.site D.round port ≡ None → Moves net good F x n p j c (leaving net r o) → ⊥
  port-idle port o p j c u to e m = let k = port-of o p j c u m in none-some k.0 (sym e ∙ ap (mover v.site D.round) (sym to) ∙ k.1)

  -- where a flit moves by a port, it moves to one of its channels alone
  pub port-one : (port o i q p j : ℕ) (c : Channel) → q < size net → q / net.relation.vcs ≡ port → mover v.site D.round port ≡ Some i → view_claim v i ≡ Holds o true → Moves net good F x n p j c (leaving net r q) → q ≡ o
  port-one port o i q p j c u to e claim m =
      let k = port-of q p j c u m in
      let same : k.0 ≡ i = same_Some _ _ (sym k.1 ∙ ap (mover v.site D.round) to ∙ e) in
      let t = (mover_to-is D v q k.0 k.2).1 in
      same_Some _ _ (sym t ∙ ap (λ y. out_of (view_claim v y)) same ∙ ap out_of claim)

  -- ---- the beat for a link port

  module _ (port s q : ℕ) (link : neighbour net.relation.grid s q ≡ Some (r, port)) (m : s < nodes net.relation.grid) where
    back : IsLinkBack net.relation.grid s q r port
    back = link_back net.relation.grid s q r port good.relation.table.grid m link

    -- the credit for a flit that leaves
    credit-is : find (λ vc. is_moved (decided_verdict D (port * v.site.vcs + vc))) (below v.site.vcs) ≡ find (λ vc. has_channel T.back (Link s q vc)) (below net.relation.vcs)
    unfolding after_verdicts
    credit-is =
        ap (λ k. find (λ vc. is_moved (decided_verdict D (port * k + vc))) (below k)) vcs-is
        ∙ find-same (λ vc. is_moved (decided_verdict D (port * net.relation.vcs + vc))) (λ vc. has_channel T.back (Link s q vc)) net.relation.vcs each
      where
        each : (vc : ℕ) → vc < net.relation.vcs → is_moved (decided_verdict D (port * net.relation.vcs + vc)) ≡ has_channel T.back (Link s q vc)
        each vc u =
            let i : ℕ = port * net.relation.vcs + vc in
            let inside : i < size net = in-size net good port vc (let b = back.port in omega (arith, b)) u in
            let row : i / net.relation.vcs ≡ port = div-mul-add port net.relation.vcs vc u in
            let col : i % net.relation.vcs ≡ vc = mod-mul-add port net.relation.vcs vc u in
            let not_local : nat_eq (i / net.relation.vcs) (local_port net.relation.grid) ≡ false = ap (λ k. nat_eq k (local_port net.relation.grid)) row ∙ Rattle.std.proofs.lemmas.Bool.ne_eqb port (local_port net.relation.grid) (λ e. let b = back.port in omega (arith, b, e)) in
            let found : arriving net r i ≡ Some (Link s q vc)
            = ap (λ b. if b then Some (Inject r (i % net.relation.vcs)) else option_map (λ (from : ℕ × ℕ). Link from.0 from.1 (i % net.relation.vcs)) (neighbour net.relation.grid r (i / net.relation.vcs))) not_local
            ∙ ap (λ k. option_map (λ (from : ℕ × ℕ). Link from.0 from.1 (i % net.relation.vcs)) (neighbour net.relation.grid r k)) row
            ∙ ap (option_map (λ (from : ℕ × ℕ). Link from.0 from.1 (i % net.relation.vcs))) back.back
            ∙ ap (λ k. Some (Link s q k)) col in
            let at = arriving-at net good r i (Link s q vc) l inside found in
            ap is_moved (decided-some net good F x n r l v seen i (Link s q vc) inside found)
            ∙ sym (channel-filter (λ y. is_link y && is_moved (verdict_in net F y)) (Link s q vc) (all_inputs net) ∙ ap (λ b. b && is_moved (verdict_in net F (Link s q vc))) (has-channel (Link s q vc) (all_inputs net) (arrives-in net good at)))

    low : port < local_port net.relation.grid
    low = Rattle.noc_route.proofs.BuiltLemmas.linked-port net.relation.grid r port (s, q) back.back

    channel : (vc : ℕ) → vc < net.relation.vcs → leaving net r (port * net.relation.vcs + vc) ≡ Link r port vc
    channel vc u = (link-from net good r port vc low u).found

    no-flit : (vc : ℕ) → ((c : Channel) (p j : ℕ) → Moves net good F x n p j c (Link r port vc) → ⊥) → flit_on net T (Link r port vc) ≡ None
    no-flit vc never = at (find (λ (f : Located). is_on (Link r port vc) f.place) T.at) refl
      where
        at : (o : Option Located) → find (λ (f : Located). is_on (Link r port vc) f.place) T.at ≡ o → flit_on net T (Link r port vc) ≡ None
        at None e = ap (option_map flit_of) e
        at (Some f) e =
            let z = on-none net good F x n (Link r port vc) never in
            let h = find-has (λ (g : Located). is_on (Link r port vc) g.place) T.at f e in
            absurd (true≢false (sym (find-passes (λ (g : Located). is_on (Link r port vc) g.place) T.at f e) ∙ Rattle.noc_theory.proofs.worms.InjectionRoomLemmas.filter-none (λ (g : Located). is_on (Link r port vc) g.place) T.at f z h))

    the-flit : (o i vc : ℕ) → o < size net → (k : MoverTo net good F x n r l v seen o i) → leaving net r o ≡ Link r port vc → flit_on net T (Link r port vc) ≡ Some (flit_of k.flit)
    unfolding after_verdicts
    the-flit o i vc u k e =
        let on : is_on (Link r port vc) (step net good F x n k.flit).place ≡ true = ap (is_on (Link r port vc)) k.to ∙ ap (λ (y : Channel). is_on (Link r port vc) (gone_to net n k.channel (Some y))) e ∙ same_channel-refl (Link r port vc) in
        let found = find-some (λ (g : Located). is_on (Link r port vc) g.place) T.at (step net good F x n k.flit) (Has-mapped (step net good F x n) k.flit F.at k.member) on in
        let was = Has-map (step net good F x n) found.0 F.at (find-has (λ (g : Located). is_on (Link r port vc) g.place) T.at found.0 found.1) in
        let f : Located = was.0 in
        let on_f : is_on (Link r port vc) (step net good F x n f).place ≡ true = ap (λ (y : Located). is_on (Link r port vc) y.place) was.2 ∙ find-passes (λ (g : Located). is_on (Link r port vc) g.place) T.at found.0 found.1 in
        let y = comes net good F x n (Link r port vc) f was.1 on_f in
        let z : Moves net good F x n k.flit.packet k.flit.index k.channel (Link r port vc) = subst (λ (c : Channel). Moves net good F x n k.flit.packet k.flit.index k.channel c) e k.goes in
        let packets : f.packet ≡ k.flit.packet = same-owner net good F x.whole.sound.keyed x.whole.sound.worm (Link r port vc) f.packet k.flit.packet y.1.next.owns z.next.owns in
        let index : f.index ≡ k.flit.index = same_index y.0 k.channel k.flit.packet f.index k.flit.index f.packet packets y.1 z in
        let of_f : flit_of found.0 ≡ flit_of f = ap (λ (g : Located). flit_of g) (sym was.2) in
        ap (option_map flit_of) found.1 ∙ ap Some (of_f ∙ ap (λ p. flit_at (packet_at net p) p f.index) packets ∙ ap (flit_at (packet_at net k.flit.packet) k.flit.packet) index)
      where
        same_index : (c d : Channel) (p a b q : ℕ) → q ≡ p → Moves net good F x n q a c (Link r port vc) → Moves net good F x n p b d (Link r port vc) → a ≡ b
        same_index c d p a b q e m k =
            let m' : Moves net good F x n p a c (Link r port vc) = subst (λ (z : ℕ). Moves net good F x n z a c (Link r port vc)) e m in
            let same : c ≡ d = next-once net good.built F x.whole.sound.keyed x.whole.sound.worm p c d (Link r port vc) m'.owns k.owns m'.next k.next in
            let k' : Moves net good F x n p b c (Link r port vc) = subst (λ (z : Channel). Moves net good F x n p b z (Link r port vc)) (sym same) k in
            let y = m'.first.least b k'.first.valid k'.was in
            let z = k'.first.least a m'.first.valid m'.was in
            omega arith

    abbrev flits : Option (ℕ × Flit)
    flits = option_and_then (λ vc. option_map (λ f. (vc, f)) (flit_on net T (Link r port vc))) (find (λ vc. is_some (flit_on net T (Link r port vc))) (below net.relation.vcs))

    flit-is : flit_out v D.round port ≡ option_and_then (λ vc. option_map (λ f. (vc, f)) (flit_on net T (Link r port vc))) (find (λ vc. is_some (flit_on net T (Link r port vc))) (below net.relation.vcs))
    flit-is = by (by-port port (omega (arith, low)))
      where
        index : (vc : ℕ) → vc < net.relation.vcs → (port * net.relation.vcs + vc < size net) × ((port * net.relation.vcs + vc) / net.relation.vcs ≡ port)
        index vc u = (in-size net good port vc (let b = low in omega (arith, b)) u, div-mul-add port net.relation.vcs vc u)

        by : ByPort port → flit_out v D.round port ≡ option_and_then (λ vc. option_map (λ f. (vc, f)) (flit_on net T (Link r port vc))) (find (λ vc. is_some (flit_on net T (Link r port vc))) (below net.relation.vcs))
        by (nothing e none) =
            none ∙ sym (ap (option_and_then (λ vc. option_map (λ f. (vc, f)) (flit_on net T (Link r port vc))))
            (find-none (λ vc. is_some (flit_on net T (Link r port vc))) net.relation.vcs
            (λ vc u. ap is_some (no-flit vc (λ c p j k. port-idle port (port * net.relation.vcs + vc) p j c (index vc u).0 (index vc u).1 e (subst (λ (y : Channel). Moves net good F x n p j c y) (sym (channel vc u)) k))))))
        by (something i o e u to k out) =
            let w : ℕ = o % net.relation.vcs in
            let w_low : w < net.relation.vcs = Rattle.noc_theory.proofs.join.PlaceViewLemmas.mod-below net good o in
            let is_o : port * net.relation.vcs + w ≡ o = ap (λ y. y * net.relation.vcs + w) (sym to) ∙ div-add-mod' o net.relation.vcs in
            let link_o : leaving net r o ≡ Link r port w = ap (leaving net r) (sym is_o) ∙ channel w w_low in
            let here : flit_on net T (Link r port w) ≡ Some (flit_of k.flit) = the-flit o i w u k link_o in
            let found : find (λ vc. is_some (flit_on net T (Link r port vc))) (below net.relation.vcs) ≡ Some w
            = find-at (λ vc. is_some (flit_on net T (Link r port vc))) net.relation.vcs w w_low (ap is_some here) (λ vc vu t. only vc vu t) in
            out ∙ sym (ap (option_and_then (λ vc. option_map (λ f. (vc, f)) (flit_on net T (Link r port vc)))) found ∙ ap (option_map (λ f. (w, f))) here)
          where
            only : (vc : ℕ) → vc < net.relation.vcs → is_some (flit_on net T (Link r port vc)) ≡ true → vc ≡ o % net.relation.vcs
            only vc vu t = cases (Rattle.std.proofs.lemmas.Bool.cases_eq vc (o % net.relation.vcs))
              where
                cases : (vc ≡ o % net.relation.vcs) ⊎ (vc ≡ o % net.relation.vcs → ⊥) → vc ≡ o % net.relation.vcs
                cases (inl z) = z
                cases (inr other) =
                    let never : (c : Channel) (p j : ℕ) → Moves net good F x n p j c (Link r port vc) → ⊥
                    = λ c p j y. let one = port-one port o i (port * net.relation.vcs + vc) p j c (index vc vu).0 (index vc vu).1 e k.claim (subst (λ (z : Channel). Moves net good F x n p j c z) (sym (channel vc vu)) y) in
                    other (sym (mod-mul-add port net.relation.vcs vc vu) ∙ ap (λ z. z % net.relation.vcs) one) in
                    absurd (false≢true (sym (ap is_some (no-flit vc never)) ∙ t))

    pub beat-is : beat_out D v port ≡ beat_by net T s q (Some (r, port))
    beat-is =
        ap (λ (f : Option (ℕ × Flit)). record { flit = f; credit = find (λ vc. is_moved (decided_verdict D (port * v.site.vcs + vc))) (below v.site.vcs) }) flit-is
        ∙ ap (λ (c : Option ℕ). record { flit = flits; credit = c }) credit-is
