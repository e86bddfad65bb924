use Rattle.std.proofs.Common.{◌≡◌, ◌*◌, ◌≤◌, max, take, drop, map}
use Rattle.std.specs.Prelude.{unwrap_or, is_none}
use Rattle.std.specs.List.{flat_map, sum_by, count_by, fold}
use Rattle.nand_model.specs.Page.{StepRead}
use Rattle.nand_model.specs.Sizes.{numbers_from, parity_bytes}
use Rattle.ecc_page.specs.Steps.{read_at}
use Rattle.ecc_page.proofs.page.decode_steps.Given as goal

abbrev pub invariant-loop-s : goal.invariant-loop-s
invariant-loop-s l =
    record {
      body_done : take (512 * l.s) l.body ≡ flat_map (λ (r : StepRead). r.body) (map (read_at l.g l.fn.body l.fn.parities) (numbers_from 0 l.s));
      body_left : drop (512 * l.s) l.body ≡ drop (512 * l.s) l.fn.body;
      parities_done : take (l.s * parity_bytes l.g) l.parities ≡ flat_map (λ (r : StepRead). r.parity) (map (read_at l.g l.fn.body l.fn.parities) (numbers_from 0 l.s));
      parities_left : drop (l.s * parity_bytes l.g) l.parities ≡ drop (l.s * parity_bytes l.g) l.fn.parities;
      corrected : l.read.corrected ≡ sum_by (λ (r : StepRead). unwrap_or r.corrected 0) (map (read_at l.g l.fn.body l.fn.parities) (numbers_from 0 l.s));
      greatest : l.read.greatest ≡ fold (λ n (r : StepRead). max n (unwrap_or r.corrected 0)) 0 (map (read_at l.g l.fn.body l.fn.parities) (numbers_from 0 l.s));
      failed : l.read.failed ≡ count_by (λ (r : StepRead). is_none r.corrected) (map (read_at l.g l.fn.body l.fn.parities) (numbers_from 0 l.s));
      corrected_small : l.read.corrected ≤ 16 * l.s;
      failed_small : l.read.failed ≤ l.s;
    }
