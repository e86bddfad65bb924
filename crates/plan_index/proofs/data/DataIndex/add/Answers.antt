use Rattle.std.proofs.Common.{◌≡◌, ◌++◌, refl, ap, ◌∙◌, arith}
use Rattle.plan_index.proofs.DataPlaces.{places_push, total_push}
use Rattle.plan_index.proofs.data.DataIndex.add.Goals as goal

pub returns : goal.returns
returns c = λ payloads payload s name_is len_is place_is new.
    let text : c.extend_from_slice.new.self.items ≡ c.args.name.now =
    c.in_ok-extend_from_slice.ensures.items ∙ ap (λ xs. xs ++ c.args.name.now) c.new-key.ensures.items in
    record {
      places = λ name. places_push (λ key. key.items) _ _ c.extend_from_slice.new.self c.args.at payloads payload c.args.name.now s.places text name_is len_is place_is new c.in_ok-insert.ensures.entries name;
      total = total_push payloads payload c.args.self.now.total _ c.args.at.len s.total len_is refl;
      few = omega (arith, c.requires);
    }
