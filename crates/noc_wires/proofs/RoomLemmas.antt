-- What is kept of a router in a core, after a change at one port.
use Rattle.std.proofs.Common.{◌≡◌, ◌≢◌, ℕ, zero, suc, ◌+◌, ◌<◌, ◌≤◌, Bool, true, false, not, ◌&&◌, ◌||◌, List, [], ◌∷◌, ◌++◌, length, map, get_or, set, take, replicate, Option, Some, None, is_some, is_none, refl, ap, sym, ◌∙◌, ⊎_elim, arith}
use Rattle.std.specs.Prelude.{if◌then◌else◌}
use Rattle.std.proofs.lemmas.Bool.{cases_eq}
use Rattle.std.proofs.lemmas.List.{ext_get_or, get_or-map, get_or-set_same, get_or-set_other, get_or-take, length-map}
use Rattle.std.specs.Bool.{then_some}
use lib.Seq.{map-set}
use Rattle.noc_packet.specs.declared.packet.Beat.{Beat}
use Rattle.noc_wires.specs.declared.wire.Wire.{Wire}
use Rattle.noc_wires.specs.Room.{wire_beats}

pub take_set : {X : Type 0} (n : ℕ) (xs : List X) (i : ℕ) (y : X) → take n (set xs i y) ≡ set (take n xs) i y
take_set zero xs i y = refl
take_set (suc n) [] i y = refl
take_set (suc n) (x ∷ xs) zero y = refl
take_set (suc n) (x ∷ xs) (suc i) y = ap (λ zs. x ∷ zs) (take_set n xs i y)

pub take_replicate : {X : Type 0} (n m : ℕ) (x : X) → n ≤ m → take n (replicate m x) ≡ replicate n x
take_replicate zero m x l = refl
take_replicate (suc n) zero x l = absurd (omega arith)
take_replicate (suc n) (suc m) x l = ap (λ zs. x ∷ zs) (take_replicate n m x (omega arith))

-- the wires after one of them changed
pub wires_set : (links : ℕ) (wires : List Wire) (port : ℕ) (wire : Wire) → take links (map wire_beats (set wires port wire)) ≡ set (take links (map wire_beats wires)) port (wire_beats wire)
wires_set links wires port wire = ap (take links) (map-set wire_beats wires port wire) ∙ take_set links (map wire_beats wires) port (wire_beats wire)

-- the wires before one of them changed
pub wire_read : (links : ℕ) (wires : List Wire) (port : ℕ) (d : Wire) → port < links → port < length wires → get_or (take links (map wire_beats wires)) port [] ≡ wire_beats (get_or wires port d)
wire_read links wires port d l within = get_or-take links (map wire_beats wires) port [] l ∙ get_or-map wire_beats wires port d [] within

-- a list that has f of each element is that list
pub map-from_each : {X Y : Type 0} (f : X → Y) (xs : List X) (ys : List Y) (d : X) (e : Y) → length ys ≡ length xs → ((k : ℕ) → k < length xs → get_or ys k e ≡ f (get_or xs k d)) → ys ≡ map f xs
map-from_each f xs ys d e count each =
    ext_get_or e ys (map f xs) (count ∙ sym (length-map xs f))
    (λ k l. each k (omega arith) ∙ sym (get_or-map f xs k d e (omega arith)))

-- one element more is f of its index
pub each_more : {Y : Type 0} (f : ℕ → Y) (ys : List Y) (i : ℕ) (y e : Y) → i < length ys → ((k : ℕ) → k < i → get_or ys k e ≡ f k) → y ≡ f i
    → (k : ℕ) → k < i + 1 → get_or (set ys i y) k e ≡ f k
each_more f ys i y e within before here k l =
    ⊎_elim
    (λ (same : k ≡ i). ap (λ j. get_or (set ys i y) j e) same ∙ get_or-set_same ys i y e within ∙ here ∙ ap f (sym same))
    (λ (n : k ≢ i). get_or-set_other ys i k y e n ∙ before k (omega arith))
    (cases_eq k i)

-- a beat lacks at a port where there is a link and none is there
pub lacks_one : (linked : Bool) (beat : Option Beat) → (not linked || is_some beat) ≡ not (is_none beat && linked)
lacks_one true None = refl
lacks_one true (Some beat) = refl
lacks_one false None = refl
lacks_one false (Some beat) = refl

pub then_some_is : {X : Type 0} (b : Bool) (x : X) → then_some b x ≡ (if b then Some x else None)
then_some_is true x = refl
then_some_is false x = refl

pub take_front : {X : Type 0} (n : ℕ) (xs ys : List X) → length xs ≡ n → take n (xs ++ ys) ≡ xs
take_front zero [] ys e = refl
take_front zero (x ∷ xs) ys e = absurd (omega (arith, e))
take_front (suc n) [] ys e = absurd (omega (arith, e))
take_front (suc n) (x ∷ xs) ys e = let same : length xs ≡ n = omega (arith, e) in ap (λ zs. x ∷ zs) (take_front n xs ys same)

pub take_of_map : {X Y : Type 0} (n : ℕ) (f : X → Y) (xs : List X) → take n (map f xs) ≡ map f (take n xs)
take_of_map zero f xs = refl
take_of_map (suc n) f [] = refl
take_of_map (suc n) f (x ∷ xs) = ap (λ zs. f x ∷ zs) (take_of_map n f xs)
