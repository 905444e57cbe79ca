use Rattle.std.proofs.Common.{◌≡◌, ◌+◌, ◌∙◌, ap, length, refl}
use Rattle.bump_class.specs.Lanes.{entries}
use Rattle.bump_handles.proofs.RunLemmas.{has_next, frees}
use Rattle.bump_handles.proofs.drainers.Drainer.apply_into.Goals as goal

pub returns : goal.returns
returns g c =
    let e = c.apply_run_into.ensures in
    let all = e.applied in
    let run = e.freed in
    let done = c.apply_run_into.result.applied in
    let next = has_next c.self.inside.raw c.fetch.new.self c.in-Some.bump c.fetch.ensures.kept c.in-Some.ensures.next in
    let grown : length (entries c.apply_run_into.new.lane) ≡ length (entries c.self.inside.raw) + done =
    all.count ∙ ap (λ n. n + done) (ap length c.fetch.ensures.aboard.kept) in
    let ring : c.apply_run_into.new.lane.ring ≡ c.self.inside.raw.ring = all.ring ∙ c.fetch.ensures.aboard.ring in
    record {
      applies = record {
        applies = frees c.args.now c.args.limit _ _ _ _ _ _ _ _ _ c.fetch.new.self run.0 run.1 c.tagged.view_is c.self.view_is all.some all.most e.few next run.2 run.3 run.4 run.5 e.over all.empty e.full grown ring refl refl;
        other = tt;
        untold = tt;
      };
    }
