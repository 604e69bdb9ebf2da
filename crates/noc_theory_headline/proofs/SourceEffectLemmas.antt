-- What the sources of a network inject, and who owns what before the verdicts.
use Rattle.std.proofs.Common.{◌≡◌, ◌≢◌, ℕ, ◌+◌, ◌<◌, ◌≤◌, Bool, true, false, List, ◌++◌, map, length, Option, Some, None, refl, ap, sym, subst, ◌∙◌, arith, inl, inr}
use Rattle.std.specs.Prelude.{◌⊎◌, ◌&&◌, filter, find, not, nat_eq, nat_le, nat_lt, option_map, option_and_then, is_none, IsTrue, if◌then◌else◌}
use Rattle.std.specs.List.{list_any}
use Rattle.std.proofs.lemmas.Bool.{false≢true, and_from, and_parts, cases_eq, cases_lt, cases_order, eq-eqb, leb-true, le-leb, lt-ltb, ltb-true}
use Rattle.std.proofs.lemmas.Option.{none-some, same_Some}
use Rattle.noc_topo.specs.Lists.{Has, below}
use Rattle.noc_topo.specs.Shape.{nodes}
use Rattle.noc_route.specs.Channel.{Channel, Link, Inject, Eject, is_link, same_channel}
use Rattle.noc_theory.specs.Good.{IsWellFormedSetup, IsValid}
use Rattle.noc_theory.specs.Network.{Setup, State, Injection, Located, Place, Source, On, In, Out, after_credits, after_injection, after_landing, count_in, first_waiting, flits_of, frozen_state, frozen_at, injection_at, injection_with, injections, is_at_source, is_freed, is_idle, is_injection_of, is_on, is_past, landed_place, owned_by, owner_of, packet_at, place_of_flit, state_at, tail_place}
use Rattle.noc_theory.proofs.worms.BuiltLemmas.{good-built, good-wired}
use Rattle.noc_theory.proofs.worms.BuiltRecordLemmas.{IsBuilt}
use Rattle.noc_theory.proofs.worms.BufferLemmas.{find-passes}
use Rattle.noc_theory.proofs.worms.NetworkLemmas.{mid_at, whole-mid_at}
use Rattle.noc_theory.proofs.worms.WormOrderLemmas.{whole-at, whole-frozen_at, worm_order-at}
use Rattle.noc_theory.proofs.worms.StateWordLemmas.{Precedes, last_of}
use Rattle.noc_theory.proofs.worms.FirstOfNodeLemmas.{waiting-first}
use Rattle.noc_theory.proofs.worms.GrantLemmas.{Has-below, IsWired}
use Rattle.noc_theory.proofs.worms.InjectionPhaseLemmas.{IsInjected, apart-same, new-entry, two-injects}
use Rattle.noc_theory.proofs.worms.InjectionStateLemmas.{entries-apart, entries-are, entries-move, injection_of-is, waiting-is}
use Rattle.noc_theory.proofs.worms.MemberLemmas.{Has-append, Has-filter, Has-filter_map, Has-filter_mapped, Has-kept, Has-left, Has-mapped, Has-right, find-fails, find-has, list_any-from}
use Rattle.noc_theory.proofs.worms.OpeningLemmas.{below-has}
use Rattle.noc_theory.proofs.worms.OptionLemmas.{and_then-some, cond-some}
use Rattle.noc_route.proofs.OptionLemmas.{is_none-none}
use Rattle.noc_theory.proofs.worms.OwnedLemmas.{has-of, idle-none, of-has, owner-has, owner-is}
use Rattle.noc_theory.proofs.worms.PlaceLemmas.{flit-there, place-stepped}
use Rattle.noc_theory.proofs.worms.RoomLemmas.{landed-count}
use Rattle.noc_theory.proofs.worms.SoundLemmas.{IsSoundFrozen, IsSoundState}
use Rattle.noc_theory.proofs.worms.WormRecordLemmas.{source-landed, valid-last}
use Rattle.noc_theory.proofs.budget.HasLemmas.{least-some}
use Rattle.noc_theory.proofs.budget.WormLemmas.{filter-none}
use Rattle.noc_theory_headline.specs.Effects.{Begins, GoesOnAt, HasPassed, IsFirstOfNode, IsNextFlit, entry_channel}
use Rattle.noc_theory_headline.proofs.SearchLemmas.{find-absent, find-least_below}

module _ (net : Setup) (made : IsWellFormedSetup net) (n : ℕ) where
  abbrev S : State
  S = state_at net n

  -- the state in which the sources inject
  abbrev M : State
  M = mid_at net made n

  abbrev F : State
  F = frozen_at net n

  built : IsBuilt net
  built = good-built net made

  wired : IsWired net
  wired = good-wired net made

  was : IsSoundState net (state_at net n)
  was = (whole-at net made n).sound

  sound : IsSoundFrozen net (mid_at net made n)
  sound = (whole-mid_at net made n).sound

  landed : (p i : ℕ) → IsValid net p i → place_of_flit net M p i ≡ landed_place net (place_of_flit net S p i)
  unfolding after_landing after_credits
  landed p i v = place-stepped net (λ (f : Located). landed_place net f.place) S (after_landing net S) was.keyed refl p i v

  to-source : (p i : ℕ) → IsValid net p i → place_of_flit net M p i ≡ Source → place_of_flit net S p i ≡ Source
  to-source p i v e = source-landed net (place_of_flit net S p i) (sym (landed p i v) ∙ e)

  from-source : (p i : ℕ) → IsValid net p i → place_of_flit net S p i ≡ Source → place_of_flit net M p i ≡ Source
  from-source p i v e = landed p i v ∙ ap (landed_place net) e

  -- ---- owners, once credits have arrived

  past-landed : (c : Channel) (t : ℕ) (x : Place) → is_past net c t (landed_place net x) ≡ is_past net c t x
  past-landed c t Source = refl
  past-landed c t (On d) = refl
  past-landed c t (In d) = refl
  past-landed c t (Out m) = refl

  freed-is : (o : Channel) (p : ℕ) → p < length net.packets → is_freed net (after_landing net S) (o, p) ≡ (is_link o && is_past net o (packet_at net p).destination (tail_place net S p))
  unfolding after_landing
  freed-is o p low =
      ap (λ x. is_link o && is_past net o (packet_at net p).destination x)
      (place-stepped net (λ (f : Located). landed_place net f.place) S (after_landing net S) was.keyed refl p (last_of net p) (valid-last net built p low))
      ∙ ap (λ b. is_link o && b) (past-landed o (packet_at net p).destination (tail_place net S p))

  mid-had : (o : Channel) (p : ℕ) → Has (o, p) M.own → Has (o, p) S.own × (is_freed net (after_landing net S) (o, p) ≡ false)
  unfolding after_landing after_credits
  mid-had o p h =
      let f = Has-filter (λ (pair : Channel × ℕ). not (is_freed net (after_landing net S) pair)) (o, p) S.own h in
      (f.0, negated (is_freed net (after_landing net S) (o, p)) f.1)
    where
      negated : (b : Bool) → not b ≡ true → b ≡ false
      negated true e = absurd (false≢true e)
      negated false e = refl

  had-mid : (o : Channel) (p : ℕ) → Has (o, p) S.own → is_freed net (after_landing net S) (o, p) ≡ false → Has (o, p) M.own
  unfolding after_landing after_credits
  had-mid o p h e = Has-kept (λ (pair : Channel × ℕ). not (is_freed net (after_landing net S) pair)) (o, p) S.own h (ap not e)

  owner-mid : (m v : ℕ) → owner_of net M (Inject m v) ≡ owner_of net S (Inject m v)
  owner-mid m v = by (owner_of net S (Inject m v)) refl (owner_of net M (Inject m v)) refl
    where
      by : (a : Option ℕ) → owner_of net S (Inject m v) ≡ a → (b : Option ℕ) → owner_of net M (Inject m v) ≡ b → owner_of net M (Inject m v) ≡ owner_of net S (Inject m v)
      by (Some q) e b f = owner-is net M (Inject m v) q sound.worm.once (had-mid (Inject m v) q (owner-has net S (Inject m v) q e) refl) ∙ sym e
      by None e None f = f ∙ sym e
      by None e (Some q) f = absurd (idle-none net S (Inject m v) q e (mid-had (Inject m v) q (owner-has net M (Inject m v) q f)).0)

  -- ---- the buffers of injection channels, once flits have landed

  none-on : (m v : ℕ) (f : Located) → Has f S.at → (x : Place) → f.place ≡ x → is_on (Inject m v) f.place ≡ false
  none-on m v f h Source e = ap (is_on (Inject m v)) e
  none-on m v f h (In d) e = ap (is_on (Inject m v)) e
  none-on m v f h (Out k) e = ap (is_on (Inject m v)) e
  none-on m v f h (On d) e = ap (is_on (Inject m v)) e ∙ other d ((worm_order-at net made n).on_own f d h e).0
    where
      other : (d : Channel) → IsTrue (is_link d) → same_channel (Inject m v) d ≡ false
      other (Link r p w) l = refl
      other (Inject r w) l = absurd (false≢true l)
      other (Eject r w) l = absurd (false≢true l)

  count-mid : (m v : ℕ) → count_in net M (Inject m v) ≡ count_in net S (Inject m v)
  unfolding after_credits
  count-mid m v =
      landed-count net (Inject m v) S
      ∙ ap (λ k. k + count_in net S (Inject m v)) (ap length (filter-none (λ (f : Located). is_on (Inject m v) f.place) S.at (λ f h. none-on m v f h f.place refl)))
      ∙ none-more (count_in net S (Inject m v))
    where
      none-more : (k : ℕ) → 0 + k ≡ k
      none-more k = omega arith

  -- ---- whose is_first it is

  waiting-is_first : (node p : ℕ) → first_waiting net M node ≡ Some p → (node ≡ (packet_at net p).source) × IsFirstOfNode net S p
  waiting-is_first node p e =
      let is = waiting-is net built M sound.keyed sound.worm n node p e in (
        is.1,
        record {
          exists = is.0;
          waits = to-source p (last_of net p) (valid-last net built p is.0) is.2;
          first = λ q low same there.
              waiting-first net built wired M sound.keyed node p e q low (same ∙ sym is.1) (from-source q (last_of net q) (valid-last net built q low) there);
        },
      )

  is_first-waiting : (p : ℕ) → IsFirstOfNode net S p → first_waiting net M (packet_at net p).source ≡ Some p
  is_first-waiting p f =
      let v = valid-last net built p f.exists in
      let node = (packet_at net p).source in
      let here = from-source p (last_of net p) v f.waits in
      let one : Located = record { packet = p; index = last_of net p; place = place_of_flit net M p (last_of net p) } in
      let listed : Has one (flits_of net M p) = Has-kept (λ (g : Located). nat_eq p g.packet) one M.at (flit-there net M sound.keyed p (last_of net p) v) (eq-eqb p p refl) in
      let test : ℕ → Bool = λ q. nat_eq (packet_at net q).source node && list_any (λ (g : Located). is_at_source g.place) (flits_of net M q) in
      let passes : test p ≡ true = and_from _ _ (eq-eqb node node refl) (list_any-from (λ (g : Located). is_at_source g.place) (flits_of net M p) one listed (ap is_at_source here)) in
      let least = least-some (λ q. (packet_at net q).due) (filter test (below (length net.packets))) p (Has-kept test p (below (length net.packets)) (below-has p (length net.packets) f.exists) passes) in
      let first : first_waiting net M node ≡ Some least.0 = least.1 in
      let is_first = waiting-is_first node least.0 first in
      let ahead = is_first.1.first p f.exists is_first.0 f.waits in
      let behind = f.first least.0 is_first.1.exists (sym is_first.0) is_first.1.waits in
      first ∙ ap Some (same least.0 ahead behind)
    where
      same : (q : ℕ) → Precedes (λ x. (packet_at net x).due) q p → Precedes (λ x. (packet_at net x).due) p q → q ≡ p
      same q (inl a) (inl b) = absurd (omega arith)
      same q (inl a) (inr b) = let e = b.0 in absurd (omega arith)
      same q (inr a) (inl b) = let e = a.0 in absurd (omega arith)
      same q (inr a) (inr b) = let k = a.1 in let m = b.1 in omega arith

  -- ---- the injection of a node

  -- packet p begins on channel v, or goes on there
  abbrev Way : ℕ → ℕ → Bool → Type 0
  Way p v begins = ((begins ≡ true) × Begins net n p v) ⊎ ((begins ≡ false) × GoesOnAt net n p v)

  begun-none : (p : ℕ) → find (is_injection_of net (packet_at net p).source) (owned_by net M p) ≡ None → (w : ℕ) → owner_of net S (entry_channel net p w) ≢ Some p
  begun-none p e w own =
      let h = owner-has net M (entry_channel net p w) p (owner-mid (packet_at net p).source w ∙ own) in
      false≢true (sym (find-fails (is_injection_of net (packet_at net p).source) (owned_by net M p) (entry_channel net p w) e (has-of (entry_channel net p w) p M.own h)) ∙ eq-eqb (packet_at net p).source (packet_at net p).source refl)

  way-of : (node : ℕ) (one : Injection net) → injection_at net M n node ≡ Some one
      → (node ≡ (packet_at net one.packet).source) × ((v : ℕ) × (one.channel ≡ entry_channel net one.packet v) × Way one.packet v one.begins)
  way-of node one e =
      let r = and_then-some (λ q. injection_with net M n node q (find (is_injection_of net node) (owned_by net M q))) (first_waiting net M node) one e in
      let is_first = waiting-is_first node r.0 r.1 in
      at r.0 is_first.0 is_first.1 (find (is_injection_of net node) (owned_by net M r.0)) refl r.2
    where
      Is : Injection net → Type 0
      Is x = (node ≡ (packet_at net x.packet).source) × ((v : ℕ) × (x.channel ≡ entry_channel net x.packet v) × Way x.packet v x.begins)

      idle-at : (q v : ℕ) → node ≡ (packet_at net q).source → is_idle net M (Inject node v) ≡ true → owner_of net S (entry_channel net q v) ≡ None
      idle-at q v same t = ap (λ m. owner_of net S (Inject m v)) (sym same) ∙ sym (owner-mid node v) ∙ is_none-none (owner_of net M (Inject node v)) t

      owned-at : (q v : ℕ) → node ≡ (packet_at net q).source → is_idle net M (Inject node v) ≡ false → owner_of net S (entry_channel net q v) ≢ None
      owned-at q v same t own =
          false≢true (sym t ∙ ap is_none (owner-mid node v ∙ ap (λ m. owner_of net S (Inject m v)) same ∙ own))

      begins-at : (q : ℕ) → node ≡ (packet_at net q).source → IsFirstOfNode net S q → ((w : ℕ) → owner_of net S (entry_channel net q w) ≢ Some q) → (packet_at net q).due ≤ n
          → (o : Option ℕ) → find (λ v. is_idle net M (Inject node v)) (below net.relation.vcs) ≡ o → option_map (λ v. (record { packet = q; channel = Inject node v; begins = true })) o ≡ Some one → Is one
      begins-at q same is_first none due None f g = absurd (none-some one g)
      begins-at q same is_first none due (Some v) f g =
          let s : record { packet = q; channel = Inject node v; begins = true } ≡ one = same_Some (record { packet = q; channel = Inject node v; begins = true }) one g in
          let begins : Begins net n q v = record {
            is_first = is_first;
            due = due;
            unbegun = none;
            exists = Has-below v net.relation.vcs (find-has (λ v. is_idle net M (Inject node v)) (below net.relation.vcs) v f);
            idle = idle-at q v same (find-passes (λ v. is_idle net M (Inject node v)) (below net.relation.vcs) v f);
            least = λ w l. owned-at q w same (find-least_below (λ v. is_idle net M (Inject node v)) net.relation.vcs v w f l);
          } in
          subst Is s (same, (v, ap (λ m. Inject m v) same, inl (refl, begins)))

      at : (q : ℕ) → node ≡ (packet_at net q).source → IsFirstOfNode net S q → (o : Option Channel) → find (is_injection_of net node) (owned_by net M q) ≡ o → injection_with net M n node q o ≡ Some one → Is one
      at q same is_first None f g =
          let b = cond-some (nat_le (packet_at net q).due n) (option_map (λ v. (record { packet = q; channel = Inject node v; begins = true })) (find (λ v. is_idle net M (Inject node v)) (below net.relation.vcs))) one g in
          begins-at q same is_first (begun-none q (ap (λ m. find (is_injection_of net m) (owned_by net M q)) (sym same) ∙ f)) (leb-true _ _ b.0) (find (λ v. is_idle net M (Inject node v)) (below net.relation.vcs)) refl b.1
      at q same is_first (Some c) f g =
          let b = cond-some (nat_lt (count_in net M c) net.depth) (Some (record { packet = q; channel = c; begins = false })) one g in
          let s : record { packet = q; channel = c; begins = false } ≡ one = same_Some (record { packet = q; channel = c; begins = false }) one b.1 in
          let is = injection_of-is net built M sound.keyed sound.worm n node c (find-passes (is_injection_of net node) (owned_by net M q) c f) in
          let own : owner_of net M c ≡ Some q = owner-is net M c q sound.worm.once (of-has c q M.own (find-has (is_injection_of net node) (owned_by net M q) c f)) in
          let entry : c ≡ entry_channel net q is.0 = is.1 ∙ ap (λ m. Inject m is.0) same in
          let goes : GoesOnAt net n q is.0 = record {
            is_first = is_first;
            begun = sym (owner-mid (packet_at net q).source is.0) ∙ ap (owner_of net M) (sym entry) ∙ own;
            room = subst (λ k. k < net.depth) (ap (count_in net M) entry ∙ count-mid (packet_at net q).source is.0) (ltb-true _ _ b.0);
          } in
          subst Is s (same, (is.0, entry, inr (refl, goes)))

  -- packet p begins on channel v of its node, and goes on there
  abbrev beginning-on : ℕ → ℕ → Injection net
  beginning-on p v = record { packet = p; channel = Inject (packet_at net p).source v; begins = true }

  abbrev going-on : ℕ → ℕ → Injection net
  going-on p v = record { packet = p; channel = Inject (packet_at net p).source v; begins = false }

  begin-injects : (p v : ℕ) → Begins net n p v → injection_at net M n (packet_at net p).source ≡ Some (beginning-on p v)
  begin-injects p v b =
      let node = (packet_at net p).source in
      ap (option_and_then (λ q. injection_with net M n node q (find (is_injection_of net node) (owned_by net M q)))) (is_first-waiting p b.is_first)
      ∙ ap (injection_with net M n node p) (none (find (is_injection_of net node) (owned_by net M p)) refl)
      ∙ ap (λ (t : Bool). if t then option_map (beginning-on p) (find (λ w. is_idle net M (Inject node w)) (below net.relation.vcs)) else None) (le-leb _ _ b.due)
      ∙ ap (option_map (beginning-on p)) (least (find (λ w. is_idle net M (Inject node w)) (below net.relation.vcs)) refl)
    where
      none : (o : Option Channel) → find (is_injection_of net (packet_at net p).source) (owned_by net M p) ≡ o → find (is_injection_of net (packet_at net p).source) (owned_by net M p) ≡ None
      none None e = e
      none (Some c) e =
          let is = injection_of-is net built M sound.keyed sound.worm n (packet_at net p).source c (find-passes (is_injection_of net (packet_at net p).source) (owned_by net M p) c e) in
          let own : owner_of net M c ≡ Some p = owner-is net M c p sound.worm.once (of-has c p M.own (find-has (is_injection_of net (packet_at net p).source) (owned_by net M p) c e)) in
          absurd (b.unbegun is.0 (sym (owner-mid (packet_at net p).source is.0) ∙ ap (owner_of net M) (sym is.1) ∙ own))

      idle : is_idle net M (entry_channel net p v) ≡ true
      idle = ap is_none (owner-mid (packet_at net p).source v ∙ b.idle)

      least : (o : Option ℕ) → find (λ w. is_idle net M (Inject (packet_at net p).source w)) (below net.relation.vcs) ≡ o → find (λ w. is_idle net M (Inject (packet_at net p).source w)) (below net.relation.vcs) ≡ Some v
      least None e = absurd (false≢true (sym (find-absent (λ w. is_idle net M (Inject (packet_at net p).source w)) net.relation.vcs v e b.exists) ∙ idle))
      least (Some w) e = e ∙ ap Some (at (cases_order w v))
        where
          at : (w ≡ v) ⊎ ((w < v) ⊎ (v < w)) → w ≡ v
          at (inl same) = same
          at (inr (inl l)) = absurd (b.least w l (sym (owner-mid (packet_at net p).source w) ∙ is_none-none (owner_of net M (Inject (packet_at net p).source w)) (find-passes (λ w. is_idle net M (Inject (packet_at net p).source w)) (below net.relation.vcs) w e)))
          at (inr (inr l)) = absurd (false≢true (sym (find-least_below (λ w. is_idle net M (Inject (packet_at net p).source w)) net.relation.vcs w v e l) ∙ idle))

  go-injects : (p v : ℕ) → GoesOnAt net n p v → injection_at net M n (packet_at net p).source ≡ Some (going-on p v)
  go-injects p v g =
      let node = (packet_at net p).source in
      ap (option_and_then (λ q. injection_with net M n node q (find (is_injection_of net node) (owned_by net M q)))) (is_first-waiting p g.is_first)
      ∙ ap (injection_with net M n node p) (found (find (is_injection_of net node) (owned_by net M p)) refl)
      ∙ ap (λ (t : Bool). if t then Some (going-on p v) else None)
      (lt-ltb _ _ (subst (λ k. k < net.depth) (sym (count-mid node v)) g.room))
    where
      own : Has (entry_channel net p v, p) M.own
      own = owner-has net M (entry_channel net p v) p (owner-mid (packet_at net p).source v ∙ g.begun)

      found : (o : Option Channel) → find (is_injection_of net (packet_at net p).source) (owned_by net M p) ≡ o → find (is_injection_of net (packet_at net p).source) (owned_by net M p) ≡ Some (entry_channel net p v)
      found None e =
          absurd (false≢true (sym (find-fails (is_injection_of net (packet_at net p).source) (owned_by net M p) (entry_channel net p v) e (has-of (entry_channel net p v) p M.own own)) ∙ eq-eqb (packet_at net p).source (packet_at net p).source refl))
      found (Some c) e =
          let is = injection_of-is net built M sound.keyed sound.worm n (packet_at net p).source c (find-passes (is_injection_of net (packet_at net p).source) (owned_by net M p) c e) in
          let mine : Has (entry_channel net p is.0, p) M.own = subst (λ (d : Channel). Has (d, p) M.own) is.1 (of-has c p M.own (find-has (is_injection_of net (packet_at net p).source) (owned_by net M p) c e)) in
          let one = two-injects net built M.own (place_of_flit net M) sound.worm p (packet_at net p).source is.0 (packet_at net p).source v mine own in
          e ∙ ap Some (is.1 ∙ one)

  listed : (p : ℕ) (one : Injection net) → p < length net.packets → injection_at net M n (packet_at net p).source ≡ Some one → Has one (injections net M n)
  listed p one low e =
      Has-filter_mapped (injection_at net M n) (packet_at net p).source one (below (nodes net.relation.grid)) (below-has (packet_at net p).source (nodes net.relation.grid) (made.packets p (record { source = 0; destination = 0; class = 0; length = 0; due = 0 }) low).source) e

  -- ---- flits that are injected

  abbrev Injected : ℕ → Type 0
  Injected p =
      IsInjected net built M.own (place_of_flit net M) sound.worm (injections net M n) (entries-are net built M sound.keyed sound.worm n) (entries-apart net built M sound.keyed sound.worm n)
      (place_of_flit net (after_injection net n M)) p

  injects-of : (p : ℕ) → p < length net.packets → Injected p
  injects-of p low = entries-move net built M sound.keyed sound.worm n p low

  way-in : (one : Injection net) → Has one (injections net M n) → (v : ℕ) × (one.channel ≡ entry_channel net one.packet v) × Way one.packet v one.begins
  way-in one h = let r = Has-filter_map (injection_at net M n) one (below (nodes net.relation.grid)) h in (way-of r.0 one r.2).1

  same-entry : (p v w : ℕ) → In (entry_channel net p w) ≡ In (entry_channel net p v) → w ≡ v
  same-entry p v w e = cc e

  abbrev Into : ℕ → ℕ → Type 0
  Into p v = Begins net n p v ⊎ GoesOnAt net n p v

  into-of : (p v : ℕ) (begins : Bool) → Way p v begins → Into p v
  into-of p v begins (inl b) = inl b.1
  into-of p v begins (inr g) = inr g.1

  pub injected-by : (p i v : ℕ) → IsValid net p i → place_of_flit net S p i ≡ Source → place_of_flit net F p i ≡ In (entry_channel net p v) → Into p v × IsNextFlit net S p i
  unfolding frozen_state
  injected-by p i v valid source now = by (injects-of p valid.0)
    where
      stays : place_of_flit net (after_injection net n M) p i ≡ place_of_flit net M p i → Into p v × IsNextFlit net S p i
      stays e = let bad : Source ≡ In (entry_channel net p v) = sym (from-source p i valid source) ∙ sym e ∙ now in absurd (cc bad)

      by : Injected p → Into p v × IsNextFlit net S p i
      by (inl none) = stays (none.0 i valid)
      by (inr (one, has, same, e)) = at (cases_eq i e.flit)
        where
          at : (i ≡ e.flit) ⊎ (i ≢ e.flit) → Into p v × IsNextFlit net S p i
          at (inr other) = stays (e.others i valid other)
          at (inl is) =
              let way = way-in one has in
              let there : In (entry_channel net p way.0) ≡ In (entry_channel net p v) = sym (ap (place_of_flit net (after_injection net n M) p) is ∙ e.now ∙ ap In (way.1 ∙ ap (λ q. entry_channel net q way.0) same)) ∙ now in
              let v_is = same-entry p v way.0 there in (
                subst (λ w. Into p w) v_is (subst (λ q. Into q way.0) same (into-of one.packet way.0 one.begins way.2)),
                (source, λ j vj sj. first j vj sj (cases_lt j i)),
              )
            where
              first : (j : ℕ) → IsValid net p j → place_of_flit net S p j ≡ Source → (j < i) ⊎ (i ≤ j) → i ≤ j
              first j vj sj (inr l) = l
              first j vj sj (inl l) = absurd (e.first j (omega arith) (from-source p j vj sj))

  pub by-injected : (p i v : ℕ) → IsValid net p i → Into p v → IsNextFlit net S p i → (place_of_flit net S p i ≡ Source) × (place_of_flit net F p i ≡ In (entry_channel net p v))
  unfolding frozen_state
  by-injected p i v valid into next = (next.0, goes (injects-of p valid.0) (entry into))
    where
      entry : Into p v → (one : Injection net) × Has one (injections net M n) × (one.packet ≡ p) × (one.channel ≡ entry_channel net p v)
      entry (inl b) = (beginning-on p v, listed p _ valid.0 (begin-injects p v b), refl, refl)
      entry (inr g) = (going-on p v, listed p _ valid.0 (go-injects p v g), refl, refl)

      goes : Injected p → ((one : Injection net) × Has one (injections net M n) × (one.packet ≡ p) × (one.channel ≡ entry_channel net p v)) → place_of_flit net (after_injection net n M) p i ≡ In (entry_channel net p v)
      goes (inl none) (one, has, same, c) = absurd (none.1 one has same)
      goes (inr (other, has, same, e)) (one, here, is, c) =
          let both : other ≡ one = apart-same net other one (injections net M n) (entries-apart net built M sound.keyed sound.worm n) has here (same ∙ sym is) in
          let low = next.1 e.flit e.valid (to-source p e.flit e.valid e.was) in
          let flit : e.flit ≡ i = at e.flit e.first low in
          ap (place_of_flit net (after_injection net n M) p) (sym flit) ∙ e.now ∙ ap (λ (x : Injection net). In x.channel) both ∙ ap In c
        where
          at : (j : ℕ) → ((k : ℕ) → k < j → place_of_flit net M p k ≢ Source) → i ≤ j → j ≡ i
          at j first low = by (cases_lt i j)
            where
              by : (i < j) ⊎ (j ≤ i) → j ≡ i
              by (inl l) = absurd (first i l (from-source p i valid next.0))
              by (inr l) = omega arith

  -- ---- owners before the verdicts

  abbrev Kept : Channel → ℕ → Type 0
  Kept o p = (owner_of net S o ≡ Some p) × (HasPassed net S p o → ⊥)

  abbrev Came : Channel → ℕ → Type 0
  Came o p = (v : ℕ) × (o ≡ entry_channel net p v) × Begins net n p v

  abbrev news : List (Channel × ℕ)
  news = map (λ (one : Injection net). (one.channel, one.packet)) (filter (λ (one : Injection net). one.begins) (injections net M n))

  frozen-own : F.own ≡ M.own ++ news
  unfolding frozen_state after_injection
  frozen-own = refl

  pub owned-by : (o : Channel) (p : ℕ) → owner_of net F o ≡ Some p → Kept o p ⊎ Came o p
  owned-by o p e = by (Has-append (o, p) M.own news (subst (λ (own : List (Channel × ℕ)). Has (o, p) own) frozen-own (owner-has net F o p e)))
    where
      by : Has (o, p) M.own ⊎ Has (o, p) news → Kept o p ⊎ Came o p
      by (inl h) =
          let had = mid-had o p h in
          let low = was.worm.known o p had.0 in
          inl (owner-is net S o p was.worm.once had.0, λ passed. false≢true (sym had.1 ∙ freed-is o p low ∙ and_from _ _ passed.0 passed.1))
      by (inr h) =
          let new = new-entry net built M.own (place_of_flit net M) sound.worm (injections net M n) (entries-are net built M sound.keyed sound.worm n) (entries-apart net built M sound.keyed sound.worm n) (place_of_flit net (after_injection net n M)) o p h in
          let way = way-in new.0 new.1 in
          inr (begun new.0 new.2 new.3 new.4 way.0 way.1 way.2)
        where
          begun : (one : Injection net) → one.begins ≡ true → one.channel ≡ o → one.packet ≡ p → (v : ℕ) → one.channel ≡ entry_channel net one.packet v → Way one.packet v one.begins → Came o p
          begun one b c q v is (inr g) = absurd (false≢true (sym g.0 ∙ b))
          begun one b c q v is (inl w) = (v, sym c ∙ is ∙ ap (λ x. entry_channel net x v) q, subst (λ x. Begins net n x v) q w.1)

  pub by-owned : (o : Channel) (p : ℕ) → Kept o p ⊎ Came o p → owner_of net F o ≡ Some p
  by-owned o p h = owner-is net F o p (whole-frozen_at net made n).sound.worm.once (subst (λ (own : List (Channel × ℕ)). Has (o, p) own) (sym frozen-own) (at h))
    where
      at : Kept o p ⊎ Came o p → Has (o, p) (M.own ++ news)
      at (inl (own, stays)) = Has-left (o, p) M.own news (had-mid o p had (unfreed (is_freed net (after_landing net S) (o, p)) refl))
        where
          had : Has (o, p) S.own
          had = owner-has net S o p own

          unfreed : (b : Bool) → is_freed net (after_landing net S) (o, p) ≡ b → is_freed net (after_landing net S) (o, p) ≡ false
          unfreed false e = e
          unfreed true e =
              let parts = and_parts (is_link o) (is_past net o (packet_at net p).destination (tail_place net S p)) (sym (freed-is o p (was.worm.known o p had)) ∙ e) in
              absurd (stays (parts.0, parts.1))
      at (inr (v, is, b)) =
          let one : Injection net = beginning-on p v in
          let has = listed p one b.is_first.exists (begin-injects p v b) in
          let mapped : Has (entry_channel net p v, p) news = Has-mapped (λ (x : Injection net). (x.channel, x.packet)) one (filter (λ (x : Injection net). x.begins) (injections net M n)) (Has-kept (λ (x : Injection net). x.begins) one (injections net M n) has refl) in
          Has-right (o, p) M.own news (subst (λ (c : Channel). Has (c, p) news) (sym is) mapped)
