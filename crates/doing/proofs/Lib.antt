mod Input
mod Linkless
