-- The input channels of a shape: each is listed once, where it arrives, and its arrival and
-- virtual channel tell it.
use Rattle.std.proofs.Common.{◌≡◌, ◌≢◌, ℕ, zero, suc, ◌+◌, ◌*◌, ◌/◌, ◌%◌, ◌<◌, ◌≤◌, Bool, true, false, cond, List, [], ◌∷◌, Option, Some, None, refl, ap, sym, ◌∙◌, inl, inr, arith}
use Rattle.std.specs.Prelude.{nat_eq, option_map, filter_map}
use Rattle.std.proofs.Math.Nat.{mod-lt, mul-le-mul_right}
use Rattle.noc_theory.proofs.Common.{flat_map, eqb-true, eq-eqb, ne_eqb, div-add-mod', div-mul-add, mod-mul-add, none-some, same_Some, Has, Pairs, below, Grid, IsGrid, nodes, ports, local_port, neighbour, link_back, Channel, Link, Inject, arrival_of, channel_vc, input_at, inputs}
use Rattle.noc_theory.proofs.worms.GrantLemmas.{Has-below}
use Rattle.noc_theory.proofs.worms.InjectionStateLemmas.{below-apart}
use Rattle.noc_theory.proofs.worms.MemberLemmas.{Has-filter_map, Has-filter_mapped, Pairs-append, Pairs-filter_map, each-at, Has-flat_map, Has-flat_mapped}
use Rattle.noc_theory.proofs.worms.OpeningLemmas.{below-has}

pub Pairs-flat_map : {X Y : Type 0} (R : Y → Y → Type 0) (S : X → X → Type 0) (f : X → List Y) (xs : List X) → ((x : X) → Has x xs → Pairs R (f x))
    → ((a b : X) → Has a xs → Has b xs → S a b → (x y : Y) → Has x (f a) → Has y (f b) → R x y) → Pairs S xs → Pairs R (flat_map f xs)
Pairs-flat_map R S f [] each apart p = tt
Pairs-flat_map R S f (z ∷ xs) each apart p =
    Pairs-append R (f z) (flat_map f xs) (each z (inl refl)) (Pairs-flat_map R S f xs (λ x h. each x (inr h)) (λ a b h k. apart a b (inr h) (inr k)) p.1)
    (λ x y h k. let r = Has-flat_map f y xs k in apart z r.0 (inl refl) (inr r.1) (each-at (S z) xs r.0 p.0 r.1) x y h r.2)

module _ (g : Grid) (vcs : ℕ) (sound : IsGrid g) where
  -- an input channel of a router arrives there, at its port and virtual channel
  pub input-arrives : (r i : ℕ) (c : Channel) → r < nodes g → input_at g vcs r i ≡ Some c → (arrival_of g c ≡ Some (r, i / vcs)) × (channel_vc c ≡ i % vcs)
  input-arrives r i c low e = at (nat_eq (i / vcs) (local_port g)) refl e
    where
      linked : (o : Option (ℕ × ℕ)) → neighbour g r (i / vcs) ≡ o → option_map (λ (from : ℕ × ℕ). Link from.0 from.1 (i % vcs)) o ≡ Some c → (arrival_of g c ≡ Some (r, i / vcs)) × (channel_vc c ≡ i % vcs)
      linked None h k = absurd (none-some c k)
      linked (Some from) h k =
          let is : Link from.0 from.1 (i % vcs) ≡ c = same_Some _ c k in
          let back = link_back g r (i / vcs) from.0 from.1 sound low h in
          (ap (arrival_of g) (sym is) ∙ back.back, ap channel_vc (sym is))

      at : (b : Bool) → nat_eq (i / vcs) (local_port g) ≡ b
          → cond b (Some (Inject r (i % vcs))) (option_map (λ (from : ℕ × ℕ). Link from.0 from.1 (i % vcs)) (neighbour g r (i / vcs))) ≡ Some c
          → (arrival_of g c ≡ Some (r, i / vcs)) × (channel_vc c ≡ i % vcs)
      at true h k =
          let is : Inject r (i % vcs) ≡ c = same_Some _ c k in
          let port : i / vcs ≡ local_port g = eqb-true _ _ h in
          (ap (arrival_of g) (sym is) ∙ ap (λ (p : ℕ). Some (r, p)) (sym port), ap channel_vc (sym is))
      at false h k = linked (neighbour g r (i / vcs)) refl k

  -- an input channel of the network is one of a router that exists, at an index that exists
  pub record IsInput (c : Channel) : Type 0 where
    pub router : ℕ
    pub index : ℕ
    pub exists : router < nodes g
    pub low : index < ports g * vcs
    pub is : input_at g vcs router index ≡ Some c
    pub arrives : arrival_of g c ≡ Some (router, index / vcs)
    pub vc : channel_vc c ≡ index % vcs

  input-here : (r : ℕ) (c : Channel) → r < nodes g → Has c (filter_map (input_at g vcs r) (below (ports g * vcs))) → IsInput c
  input-here r c low h =
      let i = Has-filter_map (input_at g vcs r) c (below (ports g * vcs)) h in
      let a = input-arrives r i.0 c low i.2 in
      record { router = r; index = i.0; exists = low; low = Has-below i.0 (ports g * vcs) i.1; is = i.2; arrives = a.0; vc = a.1 }

  pub input-is : (c : Channel) → Has c (inputs g vcs) → IsInput c
  unfolding inputs
  input-is c h =
      let r = Has-flat_map (λ r. filter_map (input_at g vcs r) (below (ports g * vcs))) c (below (nodes g)) h in
      input-here r.0 c (Has-below r.0 (nodes g) r.1) r.2

  pub has-input : (r i : ℕ) (c : Channel) → r < nodes g → i < ports g * vcs → input_at g vcs r i ≡ Some c → Has c (inputs g vcs)
  unfolding inputs
  has-input r i c low l e =
      Has-flat_mapped (λ r. filter_map (input_at g vcs r) (below (ports g * vcs))) r c (below (nodes g)) (below-has r (nodes g) low)
      (Has-filter_mapped (input_at g vcs r) i c (below (ports g * vcs)) (below-has i (ports g * vcs) l) e)

  -- its virtual channel exists
  pub input-low : (c : Channel) → IsInput c → channel_vc c < vcs
  input-low c x =
      let l = x.low in
      let m : x.index % vcs < vcs = mod-lt x.index {m = vcs} (some vcs (ports g) l) in
      rw x.vc m
    where
      some : (v n : ℕ) {i : ℕ} → i < n * v → 0 < v
      some zero n {i = i} l = absurd (omega arith)
      some (suc v) n l = omega arith

  -- arrival and virtual channel tell it
  pub same-input : (c d : Channel) → IsInput c → IsInput d → arrival_of g c ≡ arrival_of g d → channel_vc c ≡ channel_vc d → c ≡ d
  same-input c d x y a v =
      let places : Some (x.router, x.index / vcs) ≡ Some (y.router, y.index / vcs) = sym x.arrives ∙ a ∙ y.arrives in
      let pair : (x.router, x.index / vcs) ≡ (y.router, y.index / vcs) = same_Some _ _ places in
      let r : x.router ≡ y.router = ap (λ (z : ℕ × ℕ). z.0) pair in
      let p : x.index / vcs ≡ y.index / vcs = ap (λ (z : ℕ × ℕ). z.1) pair in
      let q : x.index % vcs ≡ y.index % vcs = sym x.vc ∙ v ∙ y.vc in
      let i : x.index ≡ y.index = sym (div-add-mod' x.index vcs) ∙ ap (λ z. z * vcs + x.index % vcs) p ∙ ap (λ z. y.index / vcs * vcs + z) q ∙ div-add-mod' y.index vcs in
      same_Some c d (sym x.is ∙ ap (λ z. input_at g vcs z x.index) r ∙ ap (input_at g vcs y.router) i ∙ y.is)

  -- each is listed once
  pub inputs-apart : Pairs (λ (a b : Channel). a ≢ b) (inputs g vcs)
  unfolding inputs
  inputs-apart =
      Pairs-flat_map (λ (a b : Channel). a ≢ b) (λ (a b : ℕ). a ≢ b) (λ r. filter_map (input_at g vcs r) (below (ports g * vcs))) (below (nodes g))
      (λ r h. Pairs-filter_map (λ (a b : Channel). a ≢ b) (λ (a b : ℕ). a ≢ b) (input_at g vcs r)
      (λ a b x y e f n s. n (one_index r a b x y (Has-below r (nodes g) h) e f s)) (below (ports g * vcs)) (below-apart (ports g * vcs)))
      (λ a b h k n x y hx hy s. n (one_router a b x y (Has-below a (nodes g) h) (Has-below b (nodes g) k) hx hy s))
      (below-apart (nodes g))
    where
      one_index : (r a b : ℕ) (x y : Channel) → r < nodes g → input_at g vcs r a ≡ Some x → input_at g vcs r b ≡ Some y → x ≡ y → a ≡ b
      one_index r a b x y low e f s =
          let m = input-arrives r a x low e in
          let n = input-arrives r b y low f in
          let places : Some (r, a / vcs) ≡ Some (r, b / vcs) = sym m.0 ∙ ap (arrival_of g) s ∙ n.0 in
          let pair : (r, a / vcs) ≡ (r, b / vcs) = same_Some _ _ places in
          let p : a / vcs ≡ b / vcs = ap (λ (z : ℕ × ℕ). z.1) pair in
          let q : a % vcs ≡ b % vcs = sym m.1 ∙ ap channel_vc s ∙ n.1 in
          sym (div-add-mod' a vcs) ∙ ap (λ z. z * vcs + a % vcs) p ∙ ap (λ z. b / vcs * vcs + z) q ∙ div-add-mod' b vcs

      one_router : (a b : ℕ) (x y : Channel) → a < nodes g → b < nodes g → Has x (filter_map (input_at g vcs a) (below (ports g * vcs)))
          → Has y (filter_map (input_at g vcs b) (below (ports g * vcs))) → x ≡ y → a ≡ b
      one_router a b x y la lb hx hy s =
          let i = Has-filter_map (input_at g vcs a) x (below (ports g * vcs)) hx in
          let j = Has-filter_map (input_at g vcs b) y (below (ports g * vcs)) hy in
          let m = input-arrives a i.0 x la i.2 in
          let n = input-arrives b j.0 y lb j.2 in
          let pair = same_Some (a, i.0 / vcs) (b, j.0 / vcs) (sym m.0 ∙ ap (arrival_of g) s ∙ n.0) in
          ap (λ (z : ℕ × ℕ). z.0) pair

  -- each injection channel that exists is one
  pub inject-input : (node v : ℕ) → node < nodes g → v < vcs → Has (Inject node v) (inputs g vcs)
  inject-input node v low l =
      let port : (local_port g * vcs + v) / vcs ≡ local_port g = div-mul-add (local_port g) vcs v l in
      let vc : (local_port g * vcs + v) % vcs ≡ v = mod-mul-add (local_port g) vcs v l in
      let test : nat_eq ((local_port g * vcs + v) / vcs) (local_port g) ≡ true = eq-eqb _ _ port in
      has-input node (local_port g * vcs + v) (Inject node v) low (room (local_port g) vcs v l) (rw test (rw vc refl))
    where
      room : (p n v : ℕ) → v < n → p * n + v < (p + 1) * n
      room p n v l = let e : (p + 1) * n ≡ p * n + n = omega arith in omega arith

  -- so is each link channel with a link
  pub link-input : (r a v : ℕ) (to : ℕ × ℕ) → r < nodes g → v < vcs → neighbour g r a ≡ Some to → Has (Link r a v) (inputs g vcs)
  link-input r a v to low l e =
      let back = link_back g r a to.0 to.1 sound low e in
      let p = back.port in
      let port : (to.1 * vcs + v) / vcs ≡ to.1 = div-mul-add to.1 vcs v l in
      let vc : (to.1 * vcs + v) % vcs ≡ v = mod-mul-add to.1 vcs v l in
      let test : nat_eq to.1 (local_port g) ≡ false = ne_eqb _ _ (λ z. omega arith) in
      has-input to.0 (to.1 * vcs + v) (Link r a v) back.node (room to.1 (local_port g) vcs v l p) (rw port (rw test (rw vc (rw back.back refl))))
    where
      room : (q p n v : ℕ) → v < n → q < p → q * n + v < (p + 1) * n
      room q p n v l m = let z : (q + 1) * n ≤ p * n = mul-le-mul_right n (omega arith) in let e : (p + 1) * n ≡ p * n + n = omega arith in let f : (q + 1) * n ≡ q * n + n = omega arith in omega arith
