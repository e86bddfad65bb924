use Rattle.std.proofs.Common.{◌≡◌, ◌<◌, true, not, ltb, length, sym, ap, ◌∙◌, subst, refl, arith}
use Rattle.std.specs.Prelude.{slice_set}
use Rattle.std.proofs.lemmas.List.{with_items_is, length-set}
use Rattle.std.proofs.lemmas.Bool.{lt-ltb}
use Rattle.nand_model.specs.declared.words.WeakKind.{WeakKind}
use Rattle.plan_grammar.specs.Devices.{is_weak}
use Rattle.plan_grammar.specs.Hardware.{place_count}
use Rattle.plan_index.specs.Places.{flag_at}
use Rattle.plan_index.proofs.WeakPlaces.{marked_block, weak_kept}
use Rattle.plan_index.proofs.marks.ChipMarks.add_weak_block.Goals as goal

pub returns : goal.returns
returns c = λ weak kind at.
    let m = c.requires in
    let flags = c.args.self.erases.items in
    let there : weak.at < c.args.chip.now.geometry.blocks = omega (arith, at) in
    let free : not (flag_at flags weak.at) ≡ true =
    subst (λ n. not (flag_at flags n) ≡ true) (sym at)
    (subst (λ fs. not (flag_at fs c.args.block) ≡ true) c.deref_mut.ensures.value (sym c.take_place.ensures.free ∙ c.if-not-take_place.false)) in
    let taken : c.take_place.new.flags ≡ slice_set flags weak.at true =
    c.take_place.ensures.taken ∙ ap (λ fs. slice_set fs c.args.block true) c.deref_mut.ensures.value
    ∙ ap (λ n. slice_set flags n true) (sym at) in
    let as_long : length c.take_place.new.flags ≡ c.args.self.erases.len =
    ap length taken ∙ length-set flags weak.at true ∙ sym c.args.self.erases.ok.0 in
    let stored = with_items_is c.args.self.erases c.take_place.new.flags as_long ∙ taken in (
      weak_kept c.args.chip.now weak (subst (λ (k : WeakKind). ltb weak.at (place_count c.args.chip.now.geometry k) ≡ true) (sym kind) (lt-ltb _ _ there))
          (subst (λ (k : WeakKind). not (is_weak c.args.chip.now k weak.at) ≡ true) (sym kind) (subst (λ b. not b ≡ true) (m.erases.flag_is weak.at) free)),
      marked_block c.args.chip.now c.args.self _ weak m kind there refl refl stored refl refl refl,
    )
