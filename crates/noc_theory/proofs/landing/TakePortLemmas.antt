-- A router takes the beat of one port.
use Rattle.std.proofs.Common.{◌≡◌, ℕ, ◌+◌, ◌*◌, ◌/◌, ◌%◌, ◌<◌, Bool, true, false, cond, List, [], ◌∷◌, ◌++◌, length, get_or, set, Option, Some, None, refl, ap, sym, ◌∙◌, inl, inr, subst, arith}
use Rattle.std.specs.Prelude.{find, option_map, option_and_then, is_some, ◌⊎◌, ◌&&◌, ◌||◌, nat_lt, if◌then◌else◌}
use Rattle.noc_view.proofs.FindLemmas.{find-some}
use Rattle.noc_theory.proofs.Common.{list_any, false≢true, true≢false, cases_eq, lt-ltb, and_from, none-some, same_Some, length-set, get_or-set_same, get_or-set_other, div-add-mod', div-mul-add, below, Has, nodes, local_port, neighbour, below-next, Flit, Beat, Channel, Link, Inject, no-value, Output, ejection_output, output_after_credit, credit_fits, Site, View, has_link, view_output, with_flit, with_credit, with_misfit, view_after_take, beat_by, flit_on, seen_output, Setup, State, Located, On, size, arriving, leaving, has_channel, is_on, packet_at, flit_at, IsSeen}
use Rattle.noc_theory.proofs.worms.BufferLemmas.{find-passes}
use Rattle.noc_theory.proofs.worms.MemberLemmas.{find-has, find-fails}
use Rattle.noc_theory.proofs.worms.PlaceLemmas.{place-of-flit, sorted-same, is_on-is}
use Rattle.noc_theory.proofs.worms.OpeningLemmas.{below-has}
use Rattle.noc_theory.proofs.landing.LandOutputLemmas.{link-same, link-credited, credit-fits, eject-same}
use Rattle.noc_theory.proofs.join.OrderedLemmas.{IsGood, AreShort, IsOrdered}
use Rattle.noc_theory.proofs.join.PhaseLemmas.{mid}
use Rattle.noc_theory.proofs.join.PlaceViewLemmas.{input-at, in-size, mod-below, OutputCase, ejects, links, output-case, link-from}
use Rattle.noc_theory.proofs.landing.TakeLemmas.{at_port, came, IsUpTo, IsLanded, no-flit, with-flit, elsewhere, here-before, here-after, vcs-is, site-is}

module _ (net : Setup) (good : IsGood net) (short : AreShort net) (S : State) (x : IsOrdered net S) (r : ℕ) (l : r < nodes net.relation.grid) (v0 : View) (seen : IsSeen net S r v0) (k : ℕ) (low : k < local_port net.relation.grid) (v : View)
    (so_far : IsUpTo net good S x r l v0 k v) where
  abbrev Landed : Bool → View → Type 0
  Landed b w = IsLanded net good S x r l v0 seen k low v so_far b w

  -- a flit that is on a wire
  wire : (c : Channel) (f : Flit) → flit_on net S c ≡ Some f → (g : Located) × Has g S.at × (is_on c g.place ≡ true)
  wire c f e = at (find (λ (g : Located). is_on c g.place) S.at) refl
    where
      at : (o : Option Located) → find (λ (g : Located). is_on c g.place) S.at ≡ o → (g : Located) × Has g S.at × (is_on c g.place ≡ true)
      at None z = absurd (none-some f (sym (ap (option_map (λ (g : Located). flit_at (packet_at net g.packet) g.packet g.index)) z) ∙ e))
      at (Some g) z = (g, find-has (λ (h : Located). is_on c h.place) S.at g z, find-passes (λ (h : Located). is_on c h.place) S.at g z)

  one-wire : (s q a b : ℕ) (f g : Flit) → flit_on net S (Link s q a) ≡ Some f → flit_on net S (Link s q b) ≡ Some g → b ≡ a
  one-wire s q a b f g e z =
      let m = wire (Link s q a) f e in
      let n = wire (Link s q b) g z in
      let one : Located = m.0 in
      let two : Located = n.0 in
      let keyed = x.whole.sound.keyed in
      let on_m : one.place ≡ On (Link s q a) = is_on-is (Link s q a) one.place m.2 in
      let on_n : two.place ≡ On (Link s q b) = is_on-is (Link s q b) two.place n.2 in
      let same = x.one_on_link one.packet one.index two.packet two.index s q a b (keyed.valid one m.1) (keyed.valid two n.1) (place-of-flit net S keyed one m.1 ∙ on_m) (place-of-flit net S keyed two n.1 ∙ on_n) in
      let flits : one ≡ two = sorted-same one two S.at keyed.sorted m.1 n.1 same.0 same.1 in
      let places : On (Link s q a) ≡ On (Link s q b) = sym on_m ∙ ap (λ (y : Located). y.place) flits ∙ on_n in
      sym (cc places)

  -- the flit of the port lands, if there is one
  flit-lands : Landed (is_some (beat_by net S r k (neighbour net.relation.grid r k)).flit) (with_flit net.relation k (beat_by net S r k (neighbour net.relation.grid r k)).flit v)
  flit-lands = by (neighbour net.relation.grid r k) refl
    where
      unlinked : neighbour net.relation.grid r k ≡ None → (i : ℕ) → (c : Channel) → arriving net r i ≡ Some c → i / net.relation.vcs ≡ k → ⊥
      unlinked none i c a e =
          let not_local : Rattle.std.specs.Prelude.nat_eq (i / net.relation.vcs) (local_port net.relation.grid) ≡ false = Rattle.std.proofs.lemmas.Bool.ne_eqb (i / net.relation.vcs) (local_port net.relation.grid) (λ z. omega (arith, low, e, z)) in
          let z : arriving net r i ≡ None
          = ap (λ b. if b then Some (Inject r (i % net.relation.vcs)) else option_map (λ (from : ℕ × ℕ). Link from.0 from.1 (i % net.relation.vcs)) (neighbour net.relation.grid r (i / net.relation.vcs))) not_local
          ∙ ap (λ j. option_map (λ (from : ℕ × ℕ). Link from.0 from.1 (i % net.relation.vcs)) (neighbour net.relation.grid r j)) e
          ∙ ap (option_map (λ (from : ℕ × ℕ). Link from.0 from.1 (i % net.relation.vcs))) none in
          none-some c (sym z ∙ a)

      by : (o : Option (ℕ × ℕ)) → neighbour net.relation.grid r k ≡ o → Landed (is_some (beat_by net S r k o).flit) (with_flit net.relation k (beat_by net S r k o).flit v)
      by None e = no-flit net good S x r l v0 seen k low v so_far (λ i u c a z. absurd (unlinked e i c a z))
      by (Some from) e = wires (find (λ vc. is_some (flit_on net S (Link from.0 from.1 vc))) (below net.relation.vcs)) refl
        where
          wires : (f : Option ℕ) → find (λ vc. is_some (flit_on net S (Link from.0 from.1 vc))) (below net.relation.vcs) ≡ f
              → Landed (is_some {T = ℕ × Flit} (option_and_then (λ vc. option_map (λ g. (vc, g)) (flit_on net S (Link from.0 from.1 vc))) f)) (with_flit net.relation k (option_and_then (λ vc. option_map (λ g. (vc, g)) (flit_on net S (Link from.0 from.1 vc))) f) v)
          wires None z = no-flit net good S x r l v0 seen k low v so_far none
            where
              none : (i : ℕ) → i < size net → (c : Channel) → arriving net r i ≡ Some c → i / net.relation.vcs ≡ k → flit_on net S c ≡ None
              none i u c a q =
                  let is : Link from.0 from.1 (i % net.relation.vcs) ≡ c = same_Some _ _ (sym (Rattle.noc_theory.proofs.landing.TakeLemmas.channel-at net good S x r l v0 seen k low v so_far from.0 from.1 i e q) ∙ a) in
                  let fails = find-fails (λ vc. is_some (flit_on net S (Link from.0 from.1 vc))) (below net.relation.vcs) (i % net.relation.vcs) z (below-has (i % net.relation.vcs) net.relation.vcs (mod-below net good i)) in
                  ap (flit_on net S) (sym is) ∙ no-value (flit_on net S (Link from.0 from.1 (i % net.relation.vcs))) fails
          wires (Some vc) z = flit (flit_on net S (Link from.0 from.1 vc)) refl
            where
              found : (is_some (flit_on net S (Link from.0 from.1 vc)) ≡ true) × (vc < net.relation.vcs)
              found = find-some (λ w. is_some (flit_on net S (Link from.0 from.1 w))) net.relation.vcs vc z

              flit : (f : Option Flit) → flit_on net S (Link from.0 from.1 vc) ≡ f → Landed (is_some {T = ℕ × Flit} (option_map (λ g. (vc, g)) (flit_on net S (Link from.0 from.1 vc)))) (with_flit net.relation k (option_map (λ g. (vc, g)) (flit_on net S (Link from.0 from.1 vc))) v)
              flit None q = absurd (false≢true (ap is_some (sym q) ∙ found.0))
              flit (Some f) q =
                  subst (λ (o : Option Flit). Landed (is_some {T = ℕ × Flit} (option_map (λ g. (vc, g)) o)) (with_flit net.relation k (option_map (λ g. (vc, g)) o) v)) (sym q)
                  (with-flit net good S x r l v0 seen k low v so_far short from.0 from.1 vc f e found.1 q alone)
                where
                  alone : (w : ℕ) → w < net.relation.vcs → (w ≡ vc → ⊥) → flit_on net S (Link from.0 from.1 w) ≡ None
                  alone w u apart = at (flit_on net S (Link from.0 from.1 w)) refl
                    where
                      at : (o : Option Flit) → flit_on net S (Link from.0 from.1 w) ≡ o → flit_on net S (Link from.0 from.1 w) ≡ None
                      at None y = y
                      at (Some g) y = absurd (apart (one-wire from.0 from.1 vc w f g q y))

  -- ---- the credit

  -- output channels of this port without a credit show the same after it
  output-at : (o : ℕ) → o < size net → (o / net.relation.vcs ≡ k → has_channel S.back (Link r k (o % net.relation.vcs)) ≡ false) → seen_output net (at_port net good S x r l v0 k o) r (leaving net r o) ≡ seen_output net (at_port net good S x r l v0 (k + 1) o) r (leaving net r o)
  output-at o u none = by (cases_eq (o / net.relation.vcs) k)
    where
      same : (e : o / net.relation.vcs ≡ k) → OutputCase net good r o → seen_output net S r (leaving net r o) ≡ seen_output net (mid net S) r (leaving net r o)
      same e (ejects p z) = absurd (omega (arith, e, p, low))
      same e (links p z) =
          let is : leaving net r o ≡ Link r k (o % net.relation.vcs) = z ∙ ap (λ j. Link r j (o % net.relation.vcs)) e in
          ap (seen_output net S r) is ∙ sym (link-same net good S x r o r k (o % net.relation.vcs) is (none e)) ∙ sym (ap (seen_output net (mid net S) r) is)

      by : (o / net.relation.vcs ≡ k) ⊎ (o / net.relation.vcs ≡ k → ⊥) → seen_output net (at_port net good S x r l v0 k o) r (leaving net r o) ≡ seen_output net (at_port net good S x r l v0 (k + 1) o) r (leaving net r o)
      by (inl e) =
          ap (λ (t : State). seen_output net t r (leaving net r o)) (here-before net good S x r l v0 seen k low v so_far o e) ∙ same e (output-case net good r o u)
          ∙ sym (ap (λ (t : State). seen_output net t r (leaving net r o)) (here-after net good S x r l v0 seen k low v so_far o e))
      by (inr e) = ap (λ (t : State). seen_output net t r (leaving net r o)) (elsewhere net good S x r l v0 seen k low v so_far o e)

  module _ (some_flit : Bool) (w : View) (landed : Landed some_flit w) where
    outputs-is : w.outputs ≡ v.outputs
    outputs-is = ap (λ (y : View). y.outputs) landed.same

    abbrev Taken : Bool → View → Type 0
    Taken b y = IsUpTo net good S x r l v0 (k + 1) y

    events : (b : Bool) → (came net good S x r l v0 k) ≡ (some_flit || b) → (w.had_event || b) ≡ (v0.had_event || list_any (λ port. came net good S x r l v0 port) (below (k + 1)))
    events b e =
        ap (λ y. y || b) (landed.event ∙ ap (λ y. y || some_flit) so_far.event)
        ∙ again v0.had_event (list_any (λ port. came net good S x r l v0 port) (below k)) some_flit b
        ∙ ap (λ y. v0.had_event || (list_any (λ port. came net good S x r l v0 port) (below k) || y)) (sym e)
        ∙ sym (ap (λ y. v0.had_event || y) (ap (list_any (λ port. came net good S x r l v0 port)) (below-next k) ∙ any-push (λ port. came net good S x r l v0 port) (below k) k))
      where
        again : (a b c d : Bool) → (((a || b) || c) || d) ≡ (a || (b || (c || d)))
        again true b c d = refl
        again false true c d = refl
        again false false c d = refl

        any-push : (t : ℕ → Bool) (xs : List ℕ) (y : ℕ) → list_any t (xs ++ y ∷ []) ≡ (list_any t xs || t y)
        any-push t [] y = one (t y)
          where
            one : (b : Bool) → (b || false) ≡ b
            one true = refl
            one false = refl
        any-push t (z ∷ xs) y = at (t z) (any-push t xs y)
          where
            at : (b : Bool) → list_any t (xs ++ y ∷ []) ≡ (list_any t xs || t y) → (b || list_any t (xs ++ y ∷ [])) ≡ ((b || list_any t xs) || t y)
            at true e = refl
            at false e = e

    made : (outputs : List Output) (event : Bool) → length outputs ≡ length v0.outputs → ((o : ℕ) → o < size net → get_or outputs o ejection_output ≡ seen_output net (at_port net good S x r l v0 (k + 1) o) r (leaving net r o))
        → event ≡ (v0.had_event || list_any (λ port. came net good S x r l v0 port) (below (k + 1))) → IsUpTo net good S x r l v0 (k + 1) (record w { outputs = outputs; had_event = event })
    made outputs event len each happened = record {
      site = ap (λ (y : View). y.site) landed.same ∙ so_far.site;
      n_buffers = landed.n_buffers;
      n_inputs = landed.n_inputs;
      n_outputs = len;
      buffer = landed.buffer;
      input = landed.input;
      output = each;
      arbiters = ap (λ (y : View). y.arbiters) landed.same ∙ so_far.arbiters;
      queue = ap (λ (y : View). y.queue) landed.same ∙ so_far.queue;
      sending = ap (λ (y : View). y.sending) landed.same ∙ so_far.sending;
      ends = ap (λ (y : View). y.ends) landed.same ∙ so_far.ends;
      misfits = ap (λ (y : View). y.misfits) landed.same ∙ so_far.misfits;
      noted = record {
        last_event = ap (λ (y : View). y.last_event) landed.same ∙ so_far.noted.last_event;
        counts = ap (λ (y : View). y.counts) landed.same ∙ so_far.noted.counts;
        findings = ap (λ (y : View). y.findings) landed.same ∙ so_far.noted.findings;
        to_put = ap (λ (y : View). y.to_put) landed.same ∙ so_far.noted.to_put;
      };
      given = ap (λ (y : View). y.given) landed.same ∙ so_far.given;
      event = happened;
    }

    -- no credit comes
    no-credit : came net good S x r l v0 k ≡ (some_flit || false) → ((vc : ℕ) → vc < net.relation.vcs → has_channel S.back (Link r k vc) ≡ false) → IsUpTo net good S x r l v0 (k + 1) w
    no-credit e none =
        made w.outputs w.had_event (ap length outputs-is ∙ so_far.n_outputs)
        (λ o u. ap (λ (os : List Output). get_or os o ejection_output) outputs-is ∙ so_far.output o u ∙ output-at o u (λ z. none (o % net.relation.vcs) (mod-below net good o)))
        (or-false w.had_event ∙ events false e)
      where
        or-false : (b : Bool) → b ≡ (b || false)
        or-false true = refl
        or-false false = refl

    -- a credit comes
    credit-comes : (vc : ℕ) → vc < net.relation.vcs → is_some (neighbour net.relation.grid r k) ≡ true → has_channel S.back (Link r k vc) ≡ true → came net good S x r l v0 k ≡ (some_flit || true) → IsUpTo net good S x r l v0 (k + 1) (with_credit k (Some vc) w)
    credit-comes vc u link back e = subst (λ (y : View). IsUpTo net good S x r l v0 (k + 1) y) (sym is_credited) (made (set w.outputs (k * net.relation.vcs + vc) (output_after_credit (view_output w (k * net.relation.vcs + vc)))) true (length-set w.outputs _ _ ∙ ap length outputs-is ∙ so_far.n_outputs) each (or-true w.had_event ∙ events true e))
      where
        or-true : (b : Bool) → true ≡ (b || true)
        or-true true = refl
        or-true false = refl

        site-w : w.site ≡ Rattle.noc_theory.specs.Lockstep.site_at net r
        site-w = ap (λ (y : View). y.site) landed.same ∙ site-is net good S x r l v0 seen k low v so_far

        vcs-w : w.site.vcs ≡ net.relation.vcs
        vcs-w = ap (λ (t : Site). t.vcs) site-w

        row : (k * net.relation.vcs + vc) / net.relation.vcs ≡ k
        row = div-mul-add k net.relation.vcs vc u

        inside : k * net.relation.vcs + vc < size net
        inside = in-size net good k vc (omega (arith, low)) u

        is : leaving net r (k * net.relation.vcs + vc) ≡ Link r k vc
        is = (link-from net good r k vc low u).found

        was : view_output w (k * net.relation.vcs + vc) ≡ seen_output net S r (Link r k vc)
        was =
            ap (λ (os : List Output). get_or os (k * net.relation.vcs + vc) ejection_output) outputs-is ∙ so_far.output (k * net.relation.vcs + vc) inside
            ∙ ap (λ (t : State). seen_output net t r (leaving net r (k * net.relation.vcs + vc))) (here-before net good S x r l v0 seen k low v so_far (k * net.relation.vcs + vc) row) ∙ ap (seen_output net S r) is

        fitting : (has_link w.site k && nat_lt vc w.site.vcs && credit_fits (view_output w (k * w.site.vcs + vc))) ≡ true
        fitting =
            and_from _ _ (and_from _ _ (ap (λ (t : Site). is_some (neighbour t.grid t.node k)) site-w ∙ link) (lt-ltb _ _ (subst (λ j. vc < j) (sym vcs-w) u)))
            (ap (λ j. credit_fits (view_output w (k * j + vc))) vcs-w ∙ ap credit_fits was ∙ Rattle.noc_theory.proofs.landing.LandOutputLemmas.credit-fits net good S x r (k * net.relation.vcs + vc) r k vc is back)

        is_credited : with_credit k (Some vc) w ≡ record w { outputs = set w.outputs (k * net.relation.vcs + vc) (output_after_credit (view_output w (k * net.relation.vcs + vc))); had_event = true }
        is_credited =
            ap (λ b. cond b (record w { outputs = set w.outputs (k * w.site.vcs + vc) (output_after_credit (view_output w (k * w.site.vcs + vc))); had_event = true }) (with_misfit w)) fitting
            ∙ ap (λ j. record w { outputs = set w.outputs (k * j + vc) (output_after_credit (view_output w (k * j + vc))); had_event = true }) vcs-w

        each : (o : ℕ) → o < size net → get_or (set w.outputs (k * net.relation.vcs + vc) (output_after_credit (view_output w (k * net.relation.vcs + vc)))) o ejection_output ≡ seen_output net (at_port net good S x r l v0 (k + 1) o) r (leaving net r o)
        each o uo = by (cases_eq o (k * net.relation.vcs + vc))
          where
            inside_w : k * net.relation.vcs + vc < length w.outputs
            inside_w = let a : length w.outputs ≡ length v0.outputs = ap length outputs-is ∙ so_far.n_outputs in let b = seen.n_outputs in omega (arith, a, b, inside)

            by : (o ≡ k * net.relation.vcs + vc) ⊎ (o ≡ k * net.relation.vcs + vc → ⊥) → get_or (set w.outputs (k * net.relation.vcs + vc) (output_after_credit (view_output w (k * net.relation.vcs + vc)))) o ejection_output ≡ seen_output net (at_port net good S x r l v0 (k + 1) o) r (leaving net r o)
            by (inl e) =
                ap (λ j. get_or (set w.outputs (k * net.relation.vcs + vc) (output_after_credit (view_output w (k * net.relation.vcs + vc)))) j ejection_output) e ∙ get_or-set_same w.outputs (k * net.relation.vcs + vc) _ ejection_output inside_w ∙ ap output_after_credit was
                ∙ sym (link-credited net good S x r (k * net.relation.vcs + vc) r k vc is back)
                ∙ sym (ap (λ j. seen_output net (at_port net good S x r l v0 (k + 1) j) r (leaving net r j)) e ∙ ap (λ (t : State). seen_output net t r (leaving net r (k * net.relation.vcs + vc))) (here-after net good S x r l v0 seen k low v so_far (k * net.relation.vcs + vc) row)
                ∙ ap (seen_output net (mid net S) r) is)
            by (inr apart) =
                get_or-set_other w.outputs (k * net.relation.vcs + vc) o _ ejection_output apart ∙ ap (λ (os : List Output). get_or os o ejection_output) outputs-is ∙ so_far.output o uo
                ∙ output-at o uo (λ z. none z (has_channel S.back (Link r k (o % net.relation.vcs))) refl)
              where
                none : o / net.relation.vcs ≡ k → (b : Bool) → has_channel S.back (Link r k (o % net.relation.vcs)) ≡ b → has_channel S.back (Link r k (o % net.relation.vcs)) ≡ false
                none z false q = q
                none z true q =
                    let same = x.one_back r k (o % net.relation.vcs) vc q back in
                    absurd (apart (sym (div-add-mod' o net.relation.vcs) ∙ ap (λ j. j * net.relation.vcs + o % net.relation.vcs) z ∙ ap (λ j. k * net.relation.vcs + j) same))

  -- the whole beat of the port
  pub port-taken : IsUpTo net good S x r l v0 (k + 1) (view_after_take net.relation k (beat_by net S r k (neighbour net.relation.grid r k)) v)
  unfolding view_after_take
  port-taken = by (neighbour net.relation.grid r k) refl flit-lands
    where
      unlinked : neighbour net.relation.grid r k ≡ None → (vc : ℕ) → has_channel S.back (Link r k vc) ≡ false
      unlinked none vc = at (has_channel S.back (Link r k vc)) refl
        where
          at : (b : Bool) → has_channel S.back (Link r k vc) ≡ b → has_channel S.back (Link r k vc) ≡ false
          at false e = e
          at true e = let a = input-at net good (Link r k vc) (x.back_in (Link r k vc) e).1 in absurd (none-some (a.0, a.1 / net.relation.vcs) (sym none ∙ a.2.arrives))

      by : (o : Option (ℕ × ℕ)) → neighbour net.relation.grid r k ≡ o → Landed (is_some (beat_by net S r k (neighbour net.relation.grid r k)).flit) (with_flit net.relation k (beat_by net S r k (neighbour net.relation.grid r k)).flit v)
          → IsUpTo net good S x r l v0 (k + 1) (with_credit k (beat_by net S r k (neighbour net.relation.grid r k)).credit (with_flit net.relation k (beat_by net S r k (neighbour net.relation.grid r k)).flit v))
      by None e landed =
          let w : View = with_flit net.relation k (beat_by net S r k (neighbour net.relation.grid r k)).flit v in
          let done : IsUpTo net good S x r l v0 (k + 1) w = no-credit (is_some (beat_by net S r k (neighbour net.relation.grid r k)).flit) w landed
          (ap (λ (b : Beat). is_some (beat_by net S r k (neighbour net.relation.grid r k)).flit || is_some b.credit) (ap (beat_by net S r k) e)) (λ vc u. unlinked e vc) in
          subst (λ (c : Option ℕ). IsUpTo net good S x r l v0 (k + 1) (with_credit k c w)) (sym (ap (λ (b : Beat). b.credit) (ap (beat_by net S r k) e))) done
      by (Some from) e landed = credit (find (λ vc. has_channel S.back (Link r k vc)) (below net.relation.vcs)) refl
        where
          w : View
          w = with_flit net.relation k (beat_by net S r k (neighbour net.relation.grid r k)).flit v

          credit-is : (beat_by net S r k (neighbour net.relation.grid r k)).credit ≡ find (λ vc. has_channel S.back (Link r k vc)) (below net.relation.vcs)
          credit-is = ap (λ (b : Beat). b.credit) (ap (beat_by net S r k) e)

          credit : (c : Option ℕ) → find (λ vc. has_channel S.back (Link r k vc)) (below net.relation.vcs) ≡ c
              → IsUpTo net good S x r l v0 (k + 1) (with_credit k (beat_by net S r k (neighbour net.relation.grid r k)).credit (with_flit net.relation k (beat_by net S r k (neighbour net.relation.grid r k)).flit v))
          credit None z =
              let c = credit-is ∙ z in
              let done = no-credit (is_some (beat_by net S r k (neighbour net.relation.grid r k)).flit) (with_flit net.relation k (beat_by net S r k (neighbour net.relation.grid r k)).flit v) landed
              (ap (λ (q : Option ℕ). is_some (beat_by net S r k (neighbour net.relation.grid r k)).flit || is_some q) c)
              (λ vc u. find-fails (λ j. has_channel S.back (Link r k j)) (below net.relation.vcs) vc z (below-has vc net.relation.vcs u)) in
              subst (λ (q : Option ℕ). IsUpTo net good S x r l v0 (k + 1) (with_credit k q (with_flit net.relation k (beat_by net S r k (neighbour net.relation.grid r k)).flit v))) (sym c) done
          credit (Some vc) z =
              let c = credit-is ∙ z in
              let f = find-some (λ j. has_channel S.back (Link r k j)) net.relation.vcs vc z in
              let done = credit-comes (is_some (beat_by net S r k (neighbour net.relation.grid r k)).flit) (with_flit net.relation k (beat_by net S r k (neighbour net.relation.grid r k)).flit v) landed vc f.1 (ap is_some e) f.0
              (ap (λ (q : Option ℕ). is_some (beat_by net S r k (neighbour net.relation.grid r k)).flit || is_some q) c) in
              subst (λ (q : Option ℕ). IsUpTo net good S x r l v0 (k + 1) (with_credit k q (with_flit net.relation k (beat_by net S r k (neighbour net.relation.grid r k)).flit v))) (sym c) done
