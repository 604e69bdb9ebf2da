use Rattle.std.proofs.Common.{◌≡◌, ℕ, zero, suc, ◌<◌, bit_xor, arith, refl}
use Rattle.noc_topo.specs.Shape.{opposite}
use Rattle.noc_columns.proofs.over_links.opposite.Goals as goal

-- port by port
turned : (p : ℕ) → p < 8 → bit_xor p 1 ≡ opposite p
turned zero l = refl
turned (suc zero) l = refl
turned (suc (suc zero)) l = refl
turned (suc (suc (suc zero))) l = refl
turned (suc (suc (suc (suc zero)))) l = refl
turned (suc (suc (suc (suc (suc zero))))) l = refl
turned (suc (suc (suc (suc (suc (suc zero)))))) l = refl
turned (suc (suc (suc (suc (suc (suc (suc zero))))))) l = refl
turned (suc (suc (suc (suc (suc (suc (suc (suc n)))))))) l = absurd (omega (arith, l))

pub returns : goal.returns
returns c = turned c.args.port c.requires
