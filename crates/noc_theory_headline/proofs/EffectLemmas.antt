-- The verdicts of a cycle take effect, and nothing else happens to owners and to flits in buffers.
use Rattle.std.proofs.Common.{◌≡◌, ◌≢◌, ℕ, ◌≤◌, Bool, true, false, cond, Option, Some, None, refl, ap, sym, ◌∙◌, inl, inr, subst, arith}
use Rattle.std.specs.Prelude.{◌⊎◌, filter, filter_map, option_map, option_and_then, not, if◌then◌else◌}
use Rattle.std.proofs.lemmas.Option.{none-some, same_Some}
use Rattle.noc_topo.specs.Lists.{Has}
use Rattle.noc_route.specs.Channel.{Channel, Link, Inject, Eject, sending_router, is_link}
use Rattle.noc_view.specs.Verdict.{is_granted}
use Rattle.noc_view.specs.declared.verdict.Verdict.{Verdict}
use Rattle.noc_view.specs.declared.verdict.Verdict.TheVariants.{Granted, Moved}
use Rattle.noc_theory.specs.Network.{Setup, State, Located, Place, On, In, Out, leaving, owner_of, next_channel, place_of_flit, after_verdicts, all_inputs, granted_pair, grant_to_owner, is_released, verdict_in, end_of, is_in, gone_to}
use Rattle.noc_theory.proofs.worms.BufferLemmas.{same_channel-refl}
use Rattle.noc_theory.proofs.worms.GrantLemmas.{is_granted-true, once-after_verdicts}
use Rattle.noc_theory.proofs.worms.StateWordLemmas.{IsEject, IsPlaced}
use Rattle.noc_theory.proofs.worms.MemberLemmas.{Has-append, Has-filter, Has-filter_map, Has-filter_mapped, Has-right, find-some}
use Rattle.noc_theory.proofs.worms.MoveLemmas.{IsFirst, IsMoving, IsStaying, moved-or-not, first-is, next-no-eject, placed-in}
use Rattle.noc_theory.proofs.worms.OwnedLemmas.{owner-has, owner-is, idle-none, once-same}
use Rattle.noc_theory.specs.Good.{IsValid}
use Rattle.noc_theory.proofs.worms.PlaceLemmas.{flit-there}
use Rattle.noc_theory.proofs.join.OrderedLemmas.{IsGood, IsOrderedFrozen}
use Rattle.noc_theory.proofs.join.PlaceViewLemmas.{IsAt, input-at, arriving-at, arrives-in, begins-at}
use Rattle.noc_theory_headline.specs.Effects.{IsGrantedTo, IsSentOn}
use Rattle.noc_theory_headline.specs.Headline.{IsInputOf, Owns, AsksForChannel, CanSend, WinsChannel}
use Rattle.noc_theory_headline.proofs.ClaimLemmas.{ask-some, goes-next}
use Rattle.noc_theory_headline.proofs.SaysLemmas.{verdict-says}

module _ (net : Setup) (good : IsGood net) (F : State) (x : IsOrderedFrozen net F) (n : ℕ) where
  abbrev T : State
  T = after_verdicts net n F

  at-input : (r i : ℕ) (c : Channel) → IsInputOf net r i c → IsAt net good r i c
  at-input r i c at = arriving-at net good r i c at.router at.index at.is

  input-of : (r i : ℕ) (c : Channel) → IsAt net good r i c → IsInputOf net r i c
  input-of r i c at = record { router = at.router; index = at.index; is = at.found }

  -- ---- grants

  pair-is : (r i k q : ℕ) (c : Channel) → IsInputOf net r i c → Owns net F r q c → AsksForChannel net F r c k → WinsChannel net F r i k → granted_pair net F c ≡ Some (leaving net r k, q)
  pair-is r i k q c at own asks wins =
      let here = at-input r i c at in
      let v : verdict_in net F c ≡ Granted = (verdict-says net good F x r at.router i c here Granted).1 (k, asks, wins) in
      ap (λ (y : Verdict). cond (is_granted y) (option_and_then (λ s. option_and_then (grant_to_owner net F c s) (owner_of net F c)) (end_of net.relation c)) None) v
      ∙ ap (λ (a : Option (ℕ × ℕ)). option_and_then (λ s. option_and_then (grant_to_owner net F c s) (owner_of net F c)) (option_map (λ (place : ℕ × ℕ). place.0) a)) here.arrives
      ∙ ap (option_and_then (grant_to_owner net F c r)) own
      ∙ ap (option_map (λ o. (leaving net r o, q))) (ask-some net good F x r c k asks.may asks.least)

  pub granted-to : (o : Channel) (p : ℕ) → owner_of net F o ≡ None → owner_of net T o ≡ Some p → IsGrantedTo net F o p
  unfolding after_verdicts
  granted-to o p idle e = by (Has-append (o, p) (filter (λ pair. not (is_released net F pair)) F.own) (filter_map (granted_pair net F) (all_inputs net)) (owner-has net T o p e))
    where
      from : (c : Channel) → Has c (all_inputs net) → granted_pair net F c ≡ Some (o, p) → (b : Bool) → is_granted (verdict_in net F c) ≡ b → IsGrantedTo net F o p
      from c h g false b =
          let none : None ≡ Some (o, p) = sym (ap (λ (t : Bool). cond t (option_and_then (λ s. option_and_then (grant_to_owner net F c s) (owner_of net F c)) (end_of net.relation c)) None) b) ∙ g in
          absurd (none-some (o, p) none)
      from c h g true b =
          let place = input-at net good c h in
          let at : IsInputOf net place.0 place.1 c = input-of place.0 place.1 c place.2 in
          let says = (verdict-says net good F x place.0 at.router place.1 c place.2 Granted).0 (is_granted-true _ b) in
          let asks : AsksForChannel net F place.0 c says.0 = says.1 in
          let pair = same_Some (leaving net place.0 says.0, asks.may.packet) (o, p) (sym (pair-is place.0 place.1 says.0 asks.may.packet c at asks.may.here asks says.2) ∙ g) in
          record {
            router = place.0;
            input = place.1;
            output = says.0;
            channel = c;
            at = at;
            is = ap (λ (z : Channel × ℕ). z.0) pair;
            packet = asks.may.here ∙ ap Some (ap (λ (z : Channel × ℕ). z.1) pair);
            asks = asks;
            wins = says.2;
          }

      by : Has (o, p) (filter (λ pair. not (is_released net F pair)) F.own) ⊎ Has (o, p) (filter_map (granted_pair net F) (all_inputs net)) → IsGrantedTo net F o p
      by (inl h) = absurd (idle-none net F o p idle (Has-filter (λ pair. not (is_released net F pair)) (o, p) F.own h).0)
      by (inr h) = let m = Has-filter_map (granted_pair net F) (o, p) (all_inputs net) h in from m.0 m.1 m.2 (is_granted (verdict_in net F m.0)) refl

  pub to-granted : (o : Channel) (p : ℕ) → IsGrantedTo net F o p → owner_of net T o ≡ Some p
  unfolding after_verdicts
  to-granted o p g =
      let pair : granted_pair net F g.channel ≡ Some (o, p) = pair-is g.router g.input g.output p g.channel g.at g.packet g.asks g.wins ∙ ap (λ (z : Channel). Some (z, p)) g.is in
      let listed : Has (o, p) (filter_map (granted_pair net F) (all_inputs net)) =
      Has-filter_mapped (granted_pair net F) g.channel (o, p) (all_inputs net) (arrives-in net good (at-input g.router g.input g.channel g.at)) pair in
      owner-is net T o p (once-after_verdicts net good.wired F n x.whole.sound.worm.once)
      (Has-right (o, p) (filter (λ pair. not (is_released net F pair)) F.own) (filter_map (granted_pair net F) (all_inputs net)) listed)

  -- ---- moves

  abbrev Moving : ℕ → ℕ → Channel → Channel → Type 0
  Moving p i c o = IsMoving net good.built F x.whole.sound.keyed x.whole.sound.worm n x.whole.sound.still p i c o

  abbrev Staying : ℕ → ℕ → Type 0
  Staying p i = IsStaying net good.built F x.whole.sound.keyed x.whole.sound.worm n x.whole.sound.still p i

  moved-to : (p i : ℕ) → IsValid net p i → Staying p i ⊎ ((c : Channel) × (o : Channel) × Moving p i c o)
  moved-to p i v = moved-or-not net good.built F x.whole.sound.keyed x.whole.sound.worm n x.whole.sound.still p i v

  -- this flit is the first in the buffer of its channel
  abbrev pub First : Channel → ℕ → ℕ → Type 0
  First c p i = IsFirst net good.built F x.whole.sound.keyed x.whole.sound.worm c p i

  -- the first flit of a channel that moves is sent on its next channel
  pub first-sent : (p i : ℕ) (c : Channel) → verdict_in net F c ≡ Moved → First c p i → Has (c, p) F.own → (IsEject c → ⊥)
      → (o : Channel) × IsSentOn net F p i o × (next_channel net F c ≡ Some o)
  first-sent p i c moves first own through =
      let place = input-at net good c (x.whole.covered c p (own, through)) in
      let says = (verdict-says net good F x place.0 place.2.router place.1 c place.2 Moved).0 moves in
      let sends : CanSend net F place.0 c says.0 = says.1 in (
        leaving net place.0 says.0,
        record {
          router = place.0;
          input = place.1;
          output = says.0;
          channel = c;
          at = input-of place.0 place.1 c place.2;
          is = refl;
          there = first.there;
          first = first.least;
          sends = sends;
          picked = says.2;
          wins = says.3;
        },
        goes-next net good F x place.0 place.1 c place.2 says.0 sends.goes,
      )

  pub moved-sent : (p i : ℕ) → IsValid net p i → place_of_flit net T p i ≢ place_of_flit net F p i → (o : Channel) × IsSentOn net F p i o
  moved-sent p i v other = by (moved-to p i v)
    where
      by : Staying p i ⊎ ((c : Channel) × (o : Channel) × Moving p i c o) → (o : Channel) × IsSentOn net F p i o
      by (inl s) = absurd (other s.now)
      by (inr (c, o, m)) =
          let s = first-sent p i c m.moves m.first m.owns (next-no-eject net good.built F x.whole.sound.keyed x.whole.sound.worm p c o m.next) in (s.0, s.1)

  -- the packet of a flit in a buffer owns the channel
  pub owns-placed : (p i : ℕ) (c : Channel) → IsValid net p i → place_of_flit net F p i ≡ In c → Has (c, p) F.own × (IsEject c → ⊥)
  owns-placed p i c v there =
      placed-in net good.built F x.whole.sound.keyed x.whole.sound.worm p c (subst (λ (y : Place). IsPlaced net F.own p y) there (x.whole.sound.worm.placed p i v))

  -- the first flit of a buffer, by its packet and index
  front : (p i : ℕ) (c : Channel) → IsValid net p i → place_of_flit net F p i ≡ In c → ((j : ℕ) → IsValid net p j → place_of_flit net F p j ≡ In c → i ≤ j) → First c p i
  front p i c v there least =
      let has = flit-there net F x.whole.sound.keyed p i v in
      let inside : is_in c (place_of_flit net F p i) ≡ true = ap (is_in c) there ∙ same_channel-refl c in
      let g = find-some (λ (f : Located). is_in c f.place) F.at (record { packet = p; index = i; place = place_of_flit net F p i }) has inside in
      let first = first-is net good.built F x.whole.sound.keyed x.whole.sound.worm c g.0 g.1 in
      let mine = owns-placed p i c v there in
      let its = owns-placed g.0.packet g.0.index c first.valid first.there in
      let pair = once-same (c, g.0.packet) (c, p) F.own x.whole.sound.worm.once its.0 mine.0 refl in
      at g.0.index (subst (λ (z : ℕ). First c z g.0.index) (ap (λ (z : Channel × ℕ). z.1) pair) first)
    where
      at : (j : ℕ) → First c p j → First c p i
      at j f =
          let a = least j f.valid f.there in
          let b = f.least i v there in
          let same : j ≡ i = omega arith in
          subst (First c p) same f

  -- a flit that is sent is the first of its channel, which moves and goes on by that channel
  pub sent-first : (p i : ℕ) (o : Channel) → IsValid net p i → (s : IsSentOn net F p i o)
      → (verdict_in net F s.channel ≡ Moved) × First s.channel p i × (next_channel net F s.channel ≡ Some o)
  sent-first p i o v s =
      let at = at-input s.router s.input s.channel s.at in (
        (verdict-says net good F x s.router at.router s.input s.channel at Moved).1 (s.output, s.sends, s.picked, s.wins),
        front p i s.channel v s.there s.first,
        goes-next net good F x s.router s.input s.channel at s.output s.sends.goes ∙ ap Some s.is,
      )

  gone : (c o : Channel) (r : ℕ) → sending_router o ≡ Some r → gone_to net n c (Some o) ≡ (if is_link o then On o else Out n)
  gone c (Link a b u) r e = refl
  gone c (Inject a u) r e = absurd (none-some r e)
  gone c (Eject a u) r e = refl

  pub sent-goes : (p i : ℕ) (o : Channel) → IsValid net p i → IsSentOn net F p i o → place_of_flit net T p i ≡ (if is_link o then On o else Out n)
  sent-goes p i o v s = by (moved-to p i v) (sent-first p i o v s)
    where
      by : Staying p i ⊎ ((c : Channel) × (o : Channel) × Moving p i c o) → (verdict_in net F s.channel ≡ Moved) × First s.channel p i × (next_channel net F s.channel ≡ Some o)
          → place_of_flit net T p i ≡ (if is_link o then On o else Out n)
      by (inl k) sent = absurd (k.not_first s.channel sent.0 sent.1)
      by (inr (d, q, m)) sent =
          let place : In d ≡ In s.channel = sym m.was ∙ s.there in
          let same : d ≡ s.channel = cc in
          let q_is : q ≡ o = same_Some _ _ (sym m.goes ∙ ap (next_channel net F) same ∙ sent.2) in
          m.now ∙ ap (λ (z : Channel). gone_to net n d (Some z)) q_is ∙ gone d o s.router (ap sending_router (sym s.is) ∙ begins-at net good s.router s.output)

  pub sent-moved : (p i : ℕ) (o : Channel) → IsValid net p i → IsSentOn net F p i o → place_of_flit net T p i ≢ place_of_flit net F p i
  sent-moved p i o v s e = by o (sym (sent-goes p i o v s) ∙ e ∙ s.there)
    where
      by : (o : Channel) → (if is_link o then On o else Out n) ≡ In s.channel → ⊥
      by (Link a b u) k = absurd (cc k)
      by (Inject a u) k = absurd (cc k)
      by (Eject a u) k = absurd (cc k)
