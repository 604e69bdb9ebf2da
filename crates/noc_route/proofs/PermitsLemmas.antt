-- A built relation, by channels.
use Rattle.std.proofs.Common.{◌≡◌, ◌≢◌, ℕ, ◌+◌, ◌*◌, ◌/◌, ◌%◌, ◌<◌, true, false, Option, Some, None, refl, sym, subst, ap, ◌∙◌, arith, inl, inr}
use Rattle.std.specs.Prelude.{◌⊎◌, ◌&&◌, nat_eq, nat_lt}
use Rattle.std.proofs.Math.Nat.{mod-lt}
use Rattle.std.proofs.lemmas.Nat.{div-mul-add, mod-mul-add}
use Rattle.std.proofs.lemmas.Bool.{cases_eq, eq-eqb, ne_eqb, eqb-true, false≢true, and_parts, ltb-true, lt-ltb}
use Rattle.noc_topo.specs.Shape.{Grid, nodes, local_port, neighbour}
use Rattle.noc_topo.proofs.LinkLemmas.{link_back}
use Rattle.noc_packet.specs.Set.{has_bit}
use Rattle.noc_route.specs.Channel.{Channel, Link, Inject, Eject, arrival_of, sending_router, channel_vc, output_at}
use Rattle.noc_route.specs.Routes.{Routes, set_at, permits, permits_at, is_sent, IsRelation, HasHop, HasLead}
use Rattle.noc_route.proofs.TrimLemmas.{index-parts, port-below}
use Rattle.noc_route.proofs.BuiltLemmas.{Exists, set_at-member, linked-port, same-channel}

-- what a permitted link channel is
pub record PermitsLink (routes : Routes) (m : ℕ) (c : Channel) (t r p v : ℕ) : Type 0 where
  pub in_port : ℕ
  pub sent : is_sent routes c ≡ true
  pub arrives : arrival_of routes.grid c ≡ Some (r, in_port)
  pub port : p < local_port routes.grid
  pub vc : v < routes.vcs
  pub member : has_bit (set_at routes m r in_port (channel_vc c) t) (p * routes.vcs + v) ≡ true

pub PermitsLink-from_test : (routes : Routes) (m : ℕ) (c : Channel) (t r p v : ℕ) → permits routes m c t (Link r p v) ≡ true → PermitsLink routes m c t r p v
PermitsLink-from_test routes m c t r p v e = let both = and_parts (is_sent routes c) _ e in at both.0 (arrival_of routes.grid c) refl both.1
  where
    at : is_sent routes c ≡ true → (from : Option (ℕ × ℕ)) → arrival_of routes.grid c ≡ from → permits_at routes m from (channel_vc c) t (Link r p v) ≡ true → PermitsLink routes m c t r p v
    at sent None f h = absurd (false≢true h)
    at sent (Some place) f h =
        let a = and_parts _ (has_bit (set_at routes m place.0 place.1 (channel_vc c) t) (p * routes.vcs + v)) h in
        let b = and_parts _ (nat_lt v routes.vcs) a.0 in
        let d = and_parts (nat_eq r place.0) (nat_lt p (local_port routes.grid)) b.0 in
        let same : r ≡ place.0 = eqb-true _ _ d.0 in
        record {
          in_port = place.1;
          sent = sent;
          arrives = f ∙ ap (λ x. Some (x, place.1)) (sym same);
          port = ltb-true _ _ d.1;
          vc = ltb-true _ _ b.1;
          member = ap (λ x. has_bit (set_at routes m x place.1 (channel_vc c) t) (p * routes.vcs + v)) same ∙ a.1;
        }

-- what a permitted ejection channel is
pub record PermitsEject (routes : Routes) (m : ℕ) (c : Channel) (t r v : ℕ) : Type 0 where
  pub in_port : ℕ
  pub sent : is_sent routes c ≡ true
  pub arrives : arrival_of routes.grid c ≡ Some (r, in_port)
  pub vc : v < routes.vcs
  pub member : has_bit (set_at routes m r in_port (channel_vc c) t) (local_port routes.grid * routes.vcs + v) ≡ true

pub PermitsEject-from_test : (routes : Routes) (m : ℕ) (c : Channel) (t r v : ℕ) → permits routes m c t (Eject r v) ≡ true → PermitsEject routes m c t r v
PermitsEject-from_test routes m c t r v e = let both = and_parts (is_sent routes c) _ e in at both.0 (arrival_of routes.grid c) refl both.1
  where
    at : is_sent routes c ≡ true → (from : Option (ℕ × ℕ)) → arrival_of routes.grid c ≡ from → permits_at routes m from (channel_vc c) t (Eject r v) ≡ true → PermitsEject routes m c t r v
    at sent None f h = absurd (false≢true h)
    at sent (Some place) f h =
        let a = and_parts _ (has_bit (set_at routes m place.0 place.1 (channel_vc c) t) (local_port routes.grid * routes.vcs + v)) h in
        let b = and_parts (nat_eq r place.0) (nat_lt v routes.vcs) a.0 in
        let same : r ≡ place.0 = eqb-true _ _ b.0 in
        record {
          in_port = place.1;
          sent = sent;
          arrives = f ∙ ap (λ x. Some (x, place.1)) (sym same);
          vc = ltb-true _ _ b.1;
          member = ap (λ x. has_bit (set_at routes m x place.1 (channel_vc c) t) (local_port routes.grid * routes.vcs + v)) same ∙ a.1;
        }

-- no injection channel is permitted
pub permits-inject : (routes : Routes) (m : ℕ) (c : Channel) (t n v : ℕ) → permits routes m c t (Inject n v) ≡ true → ⊥
permits-inject routes m c t n v e = at (arrival_of routes.grid c) (and_parts (is_sent routes c) _ e).1
  where
    at : (from : Option (ℕ × ℕ)) → permits_at routes m from (channel_vc c) t (Inject n v) ≡ true → ⊥
    at None h = false≢true h
    at (Some place) h = false≢true h

-- a permitted channel begins where the packet's channel arrives
pub permits-begins : (routes : Routes) (m : ℕ) (c : Channel) (t : ℕ) (o : Channel) → permits routes m c t o ≡ true
    → (place : ℕ × ℕ) × (arrival_of routes.grid c ≡ Some place) × (sending_router o ≡ Some place.0)
permits-begins routes m c t (Link r p v) e = let h = PermitsLink-from_test routes m c t r p v e in ((r, h.in_port), h.arrives, refl)
permits-begins routes m c t (Eject r v) e = let h = PermitsEject-from_test routes m c t r v e in ((r, h.in_port), h.arrives, refl)
permits-begins routes m c t (Inject n v) e = absurd (permits-inject routes m c t n v e)

-- a permitted link comes nearer by one
pub permits-nearer : (routes : Routes) → IsRelation routes → (m : ℕ) (c : Channel) (t r p v : ℕ) → permits routes m c t (Link r p v) ≡ true → HasHop routes r t p
permits-nearer routes built m c t r p v e =
    let h = PermitsLink-from_test routes m c t r p v e in
    let port : (p * routes.vcs + v) / routes.vcs ≡ p = div-mul-add p routes.vcs v h.vc in
    let P : ℕ → Type 0 = λ p. HasHop routes r t p in
    subst P port (built.nearer m r h.in_port (channel_vc c) t (p * routes.vcs + v) h.member (omega (arith, port, h.port)))

-- a permitted ejection channel is at the destination
pub permits-home : (routes : Routes) → IsRelation routes → (m : ℕ) (c : Channel) (t n v : ℕ) → permits routes m c t (Eject n v) ≡ true → n ≡ t
permits-home routes built m c t n v e =
    let h = PermitsEject-from_test routes m c t n v e in
    built.home m n h.in_port (channel_vc c) t (local_port routes.grid * routes.vcs + v) h.member (div-mul-add (local_port routes.grid) routes.vcs v h.vc)

-- a member of the set where a channel arrives is a permitted channel
pub member-permits : (routes : Routes) → IsRelation routes → (m : ℕ) (c : Channel) (t r p k : ℕ) → is_sent routes c ≡ true → arrival_of routes.grid c ≡ Some (r, p)
    → has_bit (set_at routes m r p (channel_vc c) t) k ≡ true → permits routes m c t (output_at routes.grid routes.vcs r k) ≡ true
member-permits routes built m c t r p k sent e has = at (cases_eq (k / routes.vcs) (local_port routes.grid))
  where
    here : nat_eq r r ≡ true
    here = eq-eqb r r refl

    vc : nat_lt (k % routes.vcs) routes.vcs ≡ true
    vc = lt-ltb _ _ (mod-lt k {m = routes.vcs} (omega (arith, built.table.some_vcs)))

    index : k / routes.vcs * routes.vcs + k % routes.vcs ≡ k
    index = index-parts routes.vcs k

    member : has_bit (set_at routes m r p (channel_vc c) t) (k / routes.vcs * routes.vcs + k % routes.vcs) ≡ true
    member = ap (has_bit (set_at routes m r p (channel_vc c) t)) index ∙ has

    at : (k / routes.vcs ≡ local_port routes.grid) ⊎ (k / routes.vcs ≢ local_port routes.grid) → permits routes m c t (output_at routes.grid routes.vcs r k) ≡ true
    at (inl home) =
        let local = eq-eqb _ _ home in
        let ejected : has_bit (set_at routes m r p (channel_vc c) t) (local_port routes.grid * routes.vcs + k % routes.vcs) ≡ true
        = ap (λ x. has_bit (set_at routes m r p (channel_vc c) t) (x * routes.vcs + k % routes.vcs)) (sym home) ∙ member in
        ap (permits routes m c t) (rw local refl)
        ∙ ap (λ from. is_sent routes c && permits_at routes m from (channel_vc c) t (Eject r (k % routes.vcs))) e ∙ rw (sent, here, vc, ejected) refl
    at (inr link) =
        let other = ne_eqb _ _ link in
        let port : nat_lt (k / routes.vcs) (local_port routes.grid) ≡ true
        = lt-ltb _ _ (omega (arith, link, port-below routes.grid routes.vcs k built.table.some_vcs (built.real m r p (channel_vc c) t k has))) in
        ap (permits routes m c t) (rw other refl)
        ∙ ap (λ from. is_sent routes c && permits_at routes m from (channel_vc c) t (Link r (k / routes.vcs) (k % routes.vcs))) e ∙ rw (sent, here, port, vc, member) refl

-- each injection channel away from the destination permits something
pub injected-permits : (routes : Routes) → IsRelation routes → (m n v t : ℕ) → m < routes.classes → n < nodes routes.grid → v < routes.vcs → t < nodes routes.grid → t ≢ n
    → (o : Channel) × (permits routes m (Inject n v) t o ≡ true)
injected-permits routes built m n v t a b d e away =
    let found = built.injected m n v t a b d e away in
    (output_at routes.grid routes.vcs n found.0, member-permits routes built m (Inject n v) t n (local_port routes.grid) found.0 refl refl found.1)

-- each permitted link permits something in its turn
pub led_on-permits : (routes : Routes) → IsRelation routes → (m : ℕ) (c : Channel) (t r p v : ℕ) → permits routes m c t (Link r p v) ≡ true → (o : Channel) × (permits routes m (Link r p v) t o ≡ true)
led_on-permits routes built m c t r p v e =
    let h = PermitsLink-from_test routes m c t r p v e in
    let hop = permits-nearer routes built m c t r p v e in
    let port : (p * routes.vcs + v) / routes.vcs ≡ p = div-mul-add p routes.vcs v h.vc in
    let number : (p * routes.vcs + v) % routes.vcs ≡ v = mod-mul-add p routes.vcs v h.vc in
    let there = (set_at-member routes m r h.in_port (channel_vc c) t (p * routes.vcs + v) h.member).0 in
    let found = built.led_on m r h.in_port (channel_vc c) t (p * routes.vcs + v) hop.to.0 hop.to.1 h.member (ap (neighbour routes.grid r) port ∙ hop.link) in
    let has : has_bit (set_at routes m hop.to.0 hop.to.1 v t) found.0 ≡ true = ap (λ x. has_bit (set_at routes m hop.to.0 hop.to.1 x t) found.0) (sym number) ∙ found.1 in
    (output_at routes.grid routes.vcs hop.to.0 found.0, member-permits routes built m (Link r p v) t hop.to.0 hop.to.1 found.0 (lt-ltb _ _ there.place.router) hop.link has)

-- ---- where a packet came from

-- the channel by which packets come to an entry that permits something
pub record ComingOn (routes : Routes) (m t r p v : ℕ) : Type 0 where
  pub channel : Channel
  pub sent : is_sent routes channel ≡ true
  pub arrives : arrival_of routes.grid channel ≡ Some (r, p)
  pub vc : channel_vc channel ≡ v

pub coming-on : (routes : Routes) → IsRelation routes → (m r p v t k : ℕ) → has_bit (set_at routes m r p v t) k ≡ true → ComingOn routes m t r p v
coming-on routes built m r p v t k has = at (built.reached m r p v t k has)
  where
    at : ((p ≡ local_port routes.grid) × (r ≢ t)) ⊎ HasLead routes m r p v t → ComingOn routes m t r p v
    at (inl home) = record { channel = Inject r v; sent = refl; arrives = ap (λ x. Some (r, x)) (sym home.0); vc = refl }
    at (inr lead) =
        let there = (set_at-member routes m lead.router lead.in_port lead.in_vc t lead.channel lead.permitted).0 in
        record {
          channel = Link lead.router (lead.channel / routes.vcs) (lead.channel % routes.vcs);
          sent = lt-ltb _ _ there.place.router;
          arrives = lead.link;
          vc = lead.vc;
        }

-- the channel of a packet that is permitted something is an injection channel away from its
-- destination, or one that was permitted to it before
pub record CameBy (routes : Routes) (m : ℕ) (c : Channel) (t : ℕ) : Type 0 where
  pub before : Channel
  pub permitted : permits routes m before t c ≡ true

pub record StartsOn (routes : Routes) (m : ℕ) (c : Channel) (t : ℕ) : Type 0 where
  pub node : ℕ
  pub vc : ℕ
  pub channel : c ≡ Inject node vc
  pub class : m < routes.classes
  pub exists : node < nodes routes.grid
  pub vc_exists : vc < routes.vcs
  pub dst : t < nodes routes.grid
  pub away : t ≢ node

-- a member of the set where a channel arrives
member-of : (routes : Routes) (m : ℕ) (c : Channel) (t : ℕ) (o : Channel) → permits routes m c t o ≡ true
    → (r : ℕ) × (p : ℕ) × (k : ℕ) × (is_sent routes c ≡ true) × (arrival_of routes.grid c ≡ Some (r, p)) × (has_bit (set_at routes m r p (channel_vc c) t) k ≡ true)
member-of routes m c t (Link r p v) e = let h = PermitsLink-from_test routes m c t r p v e in (r, h.in_port, p * routes.vcs + v, h.sent, h.arrives, h.member)
member-of routes m c t (Eject r v) e = let h = PermitsEject-from_test routes m c t r v e in (r, h.in_port, local_port routes.grid * routes.vcs + v, h.sent, h.arrives, h.member)
member-of routes m c t (Inject n v) e = absurd (permits-inject routes m c t n v e)

-- a link by which packets are led on is permitted
lead-permits : (routes : Routes) → IsRelation routes → (m r p v t : ℕ) → (lead : HasLead routes m r p v t)
    → (c : Channel) × (permits routes m c t (Link lead.router (lead.channel / routes.vcs) (lead.channel % routes.vcs)) ≡ true)
lead-permits routes built m r p v t lead =
    let before = coming-on routes built m lead.router lead.in_port lead.in_vc t lead.channel lead.permitted in
    let member : has_bit (set_at routes m lead.router lead.in_port (channel_vc before.channel) t) lead.channel ≡ true
    = ap (λ x. has_bit (set_at routes m lead.router lead.in_port x t) lead.channel) before.vc ∙ lead.permitted in
    let port = linked-port routes.grid lead.router (lead.channel / routes.vcs) (r, p) lead.link in
    let other : nat_eq (lead.channel / routes.vcs) (local_port routes.grid) ≡ false = ne_eqb _ _ (λ e. omega (arith, e, port)) in
    (before.channel, ap (permits routes m before.channel t) (sym (rw other refl)) ∙ member-permits routes built m before.channel t lead.router lead.in_port lead.channel before.sent before.arrives member)

-- an injection channel arrives at its node's local port
inject-place : (g : Grid) (n v r p : ℕ) → arrival_of g (Inject n v) ≡ Some (r, p) → (n ≡ r) × (local_port g ≡ p)
inject-place g n v r p e =
    let home : ℕ × ℕ = (n, local_port g) in
    let place : ℕ × ℕ = (r, p) in
    let both : Some home ≡ Some place = e in
    let same : home ≡ place = cc in
    (ap (λ (x : ℕ × ℕ). x.0) same, ap (λ (x : ℕ × ℕ). x.1) same)

pub permits-came : (routes : Routes) → IsRelation routes → (m : ℕ) (c : Channel) (t : ℕ) (o : Channel) → permits routes m c t o ≡ true → StartsOn routes m c t ⊎ CameBy routes m c t
permits-came routes built m (Eject n v) t o e = let member = member-of routes m (Eject n v) t o e in absurd (false≢true member.3)
permits-came routes built m (Inject n v) t o e = at (built.reached m member.0 member.1 v t member.2 member.5)
  where
    member : (r : ℕ) × (p : ℕ) × (k : ℕ) × (is_sent routes (Inject n v) ≡ true) × (arrival_of routes.grid (Inject n v) ≡ Some (r, p)) × (has_bit (set_at routes m r p v t) k ≡ true)
    member = member-of routes m (Inject n v) t o e

    place : (n ≡ member.0) × (local_port routes.grid ≡ member.1)
    place = inject-place routes.grid n v member.0 member.1 member.4

    there : Exists routes m member.0 member.1 v t
    there = (set_at-member routes m member.0 member.1 v t member.2 member.5).0

    node : n ≡ member.0
    node = place.0

    at : ((member.1 ≡ local_port routes.grid) × (member.0 ≢ t)) ⊎ HasLead routes m member.0 member.1 v t → StartsOn routes m (Inject n v) t ⊎ CameBy routes m (Inject n v) t
    at (inl home) =
        inl (record {
          node = n;
          vc = v;
          channel = refl;
          class = there.place.class;
          exists = omega (arith, node, there.place.router);
          vc_exists = there.vc;
          dst = there.place.dst;
          away = λ same. home.1 (sym node ∙ sym same);
        })
    at (inr lead) =
        let linked = (set_at-member routes m lead.router lead.in_port lead.in_vc t lead.channel lead.permitted).0 in
        let back = link_back routes.grid lead.router (lead.channel / routes.vcs) member.0 member.1 built.table.grid linked.place.router lead.link in
        absurd (omega (arith, back.port, place.1))
permits-came routes built m (Link a q w) t o e = at (built.reached m member.0 member.1 w t member.2 member.5)
  where
    member : (r : ℕ) × (p : ℕ) × (k : ℕ) × (is_sent routes (Link a q w) ≡ true) × (arrival_of routes.grid (Link a q w) ≡ Some (r, p)) × (has_bit (set_at routes m r p w t) k ≡ true)
    member = member-of routes m (Link a q w) t o e

    at : ((member.1 ≡ local_port routes.grid) × (member.0 ≢ t)) ⊎ HasLead routes m member.0 member.1 w t → StartsOn routes m (Link a q w) t ⊎ CameBy routes m (Link a q w) t
    at (inl home) =
        let back = link_back routes.grid a q member.0 member.1 built.table.grid (ltb-true _ _ member.3) member.4 in
        absurd (omega (arith, back.port, home.0))
    at (inr lead) =
        let found = lead-permits routes built m member.0 member.1 w t lead in
        let linked = (set_at-member routes m lead.router lead.in_port lead.in_vc t lead.channel lead.permitted).0 in
        let same : Link lead.router (lead.channel / routes.vcs) (lead.channel % routes.vcs) ≡ Link a q w
        = same-channel routes.grid routes.sets routes.vcs routes.classes (Link lead.router (lead.channel / routes.vcs) (lead.channel % routes.vcs)) (Link a q w) (member.0, member.1) built.table.grid
        (lt-ltb _ _ linked.place.router) member.3 lead.link member.4 lead.vc in
        inr (record { before = found.0; permitted = ap (permits routes m found.0 t) (sym same) ∙ found.1 })
