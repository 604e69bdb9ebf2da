-- When a flit lands.
use Rattle.std.proofs.Common.{◌≡◌, ℕ, ◌+◌, ◌*◌, Bool, true, false, refl}
use Rattle.std.specs.Prelude.{◌&&◌, nat_lt}
use Rattle.noc_packet.specs.declared.packet.Flit.{Flit}
use Rattle.noc_route.specs.Routes.{Routes}
use Rattle.noc_vc.specs.Input.{fits}
use Rattle.noc_view.specs.View.{View, has_link, view_buffer, view_input}

-- whether a flit lands
abbrev pub lands : Routes → ℕ → ℕ → Flit → View → Bool
lands relation port vc f v =
    let i = port * v.site.vcs + vc in
    has_link v.site port && nat_lt vc v.site.vcs && fits relation v.site.node port vc v.site.depth (view_buffer v i) (view_input v i) f

pub three : (a b d : Bool) → a ≡ true → b ≡ true → d ≡ true → (a && b && d) ≡ true
three true true true e f g = refl
three true true false e f g = g
three true false d e f g = f
three false b d e f g = e

pub not_first : (a b d : Bool) → a ≡ false → (a && b && d) ≡ false
not_first false b d e = refl
not_first true b d e = absurd (cc)

pub not_second : (a b d : Bool) → b ≡ false → (a && b && d) ≡ false
not_second false b d e = refl
not_second true false d e = refl
not_second true true d e = absurd (cc)

pub not_third : (a b d : Bool) → d ≡ false → (a && b && d) ≡ false
not_third false b d e = refl
not_third true false d e = refl
not_third true true d e = e
