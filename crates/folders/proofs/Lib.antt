mod NewestSheet
