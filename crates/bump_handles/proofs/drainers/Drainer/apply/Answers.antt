use Rattle.std.proofs.Common.{◌≡◌, ◌+◌, ◌∙◌, ap, length, refl}
use Rattle.bump_class.specs.Lanes.{entries}
use Rattle.bump_handles.proofs.RunLemmas.{has_next, applies}
use Rattle.bump_handles.proofs.drainers.Drainer.apply.Goals as goal

pub returns : goal.returns
returns g c =
    let e = c.apply_run.ensures in
    let all = e.applied in
    let run = all.run in
    let next = has_next c.self.inside.raw c.fetch.new.self c.in-Some.bump c.fetch.ensures.kept c.in-Some.ensures.next in
    let grown : length (entries c.apply_run.new.lane) ≡ length (entries c.self.inside.raw) + c.apply_run.result =
    all.count ∙ ap (λ n. n + c.apply_run.result) (ap length c.fetch.ensures.aboard.kept) in
    let ring : c.apply_run.new.lane.ring ≡ c.self.inside.raw.ring = all.ring ∙ c.fetch.ensures.aboard.ring in
    record {
      applies = record {
        applies = applies c.args.now c.args.limit _ _ _ _ _ _ c.apply_run.result c.fetch.new.self run.0 c.tagged.view_is c.self.view_is all.some all.most next run.1 run.2 e.over all.empty grown ring refl refl;
        other = tt;
      };
    }
