use Rattle.std.proofs.Common.{◌∙◌, map, string_bytes}
use Rattle.bd_wide_service.proofs.TypesLemmas.{appended, types_text}
use Rattle.bd_wide_service.proofs.service.write_types.Goals as goal

pub returns-clause-ok : goal.returns-clause-ok
returns-clause-ok c =
    appended c.extend_from_slice-2.result c.args.text.now.items c.extend_from_slice-2.new.self.items c.deref.result.now _ c.extend_from_slice-2.ensures.items
    (c.deref.ensures.value ∙ types_text (map string_bytes c.args.place.now) c.new-reply.result.items c.write_refusal.new.out.items c.truncate.new.self.items
    c.extend_from_slice.new.self.items c.write_path.new.out.items c.push.new.self.items c.len.result c.new-reply.ensures.items c.in_ok-write_refusal.ensures.ok
    (c.len.ensures ∙ c.write_refusal.new.out.ok.0) c.truncate.ensures.items c.in_ok-extend_from_slice.ensures.items c.in_ok-write_path.ensures.ok c.in_ok-push.ensures.items)
