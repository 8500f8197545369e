use Rattle.std.proofs.Common.{◌≡◌, length, refl, ap, ◌∙◌, arith, rules}
use Rattle.adjoint.specs.declared.lanes.Mode.TheVariants.{Become}
use Rattle.adjoint.specs.Lanes.{combined, product_of}
use Rattle.adjoint.proofs.Laned.{takes_over}
use Rattle.adjoint.proofs.lanes.Product.meet_part.Goals as goal

pub returns-in-Become : goal.returns-in-Become
returns-in-Become g c =
    let o = g.N.Scalar.kind.ops in
    let part = c.args.part.now in
    let all = product_of o c.args.self.now.matrix.now (length part) c.args.vector.now in
    let made : c.minus_transposed_product.new.out ≡ all = search rules in
    let long : length part ≡ length all = omega (arith, ap length made) in
    rw c.in-Become.is (c.copy_from_slice.ensures.after ∙ made ∙ takes_over (combined o Become) (λ y x. refl) part all long)
