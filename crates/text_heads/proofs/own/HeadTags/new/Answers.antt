use Rattle.text_heads.proofs.own.HeadTags.new.Goals as goal

pub returns : goal.returns
returns c = λ lists same. record {
  sender = c.is_head_tag.ensures lists same;
  target = c.is_head_tag-2.ensures lists same;
  seq = c.is_head_tag-3.ensures lists same;
  time = c.is_head_tag-4.ensures lists same;
}
