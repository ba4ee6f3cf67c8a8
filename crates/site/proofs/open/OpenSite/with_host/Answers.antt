use Rattle.std.proofs.Common.{rules, refl, sym}
use Rattle.site.specs.Calls.{Acts}
use Rattle.site.proofs.Edits.{told-there, held-there, names-kept, after-gone}
use Rattle.site.proofs.open.OpenSite.with_host.Goals as goal

pub returns-then-place-hosts-clause-held : goal.returns-then-place-hosts-clause-held
returns-then-place-hosts-clause-held g c = λ after _. after-gone c.args.self.now c.args.host c.hosts.result.now c.hosts.ensures.entries c.if-place-hosts.true after

pub invariant_of-self : goal.invariant_of-self
invariant_of-self g c =
    let acts : Acts g.F.FnOnce c.args.act c.args.self.now.names.table c.index-self-place.result c.act.result c.act.new.arg2 = record { host = _; is = sym c.index-self-place.is; seen = _; are = refl; left = _; met = c.act.ensures; leaves = refl } in
    record { named = names-kept c.args.self.now c.args.host c.hosts.result.now c.hosts.ensures.entries c.if-place-hosts.false c.index-self-place.result c.act.new.arg2 c.index-self-place.is (c.requires.keeps _ _ _ acts) }

pub returns-in_err-at : goal.returns-in_err-at
returns-in_err-at g c =
    let acts : Acts g.F.FnOnce c.args.act c.args.self.now.names.table c.index-self-place.result c.act.result c.act.new.arg2 = record { host = _; is = sym c.index-self-place.is; seen = _; are = refl; left = _; met = c.act.ensures; leaves = refl } in
    record {
      told = λ answer a. let told = told-there c.args.self.now c.args.host c.hosts.result.now c.hosts.ensures.entries c.if-place-hosts.false c.index-self-place.result c.act.new.arg2 c.index-self-place.is g.F.FnOnce c.args.act c.act.result acts c.args.kind answer a in search rules;
      held = λ after a. held-there c.args.self.now c.args.host c.hosts.result.now c.hosts.ensures.entries c.if-place-hosts.false c.index-self-place.result c.act.new.arg2 c.index-self-place.is g.F.FnOnce c.args.act c.act.result acts after a;
    }

pub returns : goal.returns
returns g c =
    let acts : Acts g.F.FnOnce c.args.act c.args.self.now.names.table c.index-self-place.result c.act.result c.act.new.arg2 = record { host = _; is = sym c.index-self-place.is; seen = _; are = refl; left = _; met = c.act.ensures; leaves = refl } in
    record {
      told = λ answer a. let told = told-there c.args.self.now c.args.host c.hosts.result.now c.hosts.ensures.entries c.if-place-hosts.false c.index-self-place.result c.act.new.arg2 c.index-self-place.is g.F.FnOnce c.args.act c.act.result acts c.args.kind answer a in search rules;
      held = λ after a. held-there c.args.self.now c.args.host c.hosts.result.now c.hosts.ensures.entries c.if-place-hosts.false c.index-self-place.result c.act.new.arg2 c.index-self-place.is g.F.FnOnce c.args.act c.act.result acts after a;
    }
